use Rattle.std.proofs.Common.{subst, arith}
use Rattle.fp_host.proofs.Looking.{looks_within}
use Rattle.fp_host.proofs.Ending.{ends_on, ends_looks, ends_both}
use Rattle.ost_refs.specs.Found.{Adds}
use Rattle.ost_refs.proofs.Found.{finds_next}
use Rattle.ost_refs.proofs.listing.places_among.Goals as goal

pub returns-in_err-add_place-clause-unchanged : goal.returns-in_err-add_place-clause-unchanged
returns-in_err-add_place-clause-unchanged g c = looks_within c.add_place.ensures.unchanged c.loop-path.invariant.still (g.met.H.Host.is_tree c.loop-path.host)

pub loop-path-preserved : goal.loop-path-preserved
loop-path-preserved g c =
    let t = g.met.H.Host.is_tree in
    record {
      still = looks_within c.add_place.ensures.unchanged c.loop-path.invariant.still (t c.loop-path.host);
      tells = ends_on c.in_ok-add_place.ensures.tells (ends_both (ends_looks (t c.args.host.now) c.loop-path.invariant.still) c.loop-path.invariant.tells) (t c.loop-path.host) (λ u v w tree q adds.
          finds_next c.args.paths.now c.loop-path.path-index c.path-item.result c.loop-path.found.entries _ c.loop-path-test.true c.path-item.is q.1 (subst (λ x. Adds c.path-item.result x c.loop-path.found.entries c.add_place.new.found.entries) q.0.0 adds));
      later = omega (arith, c.loop-path.invariant.later, c.add_place.ensures.fault_has_cause.later);
    }
