use Rattle.std.proofs.Common.{subst, arith, List}
use Rattle.fp_host.specs.Paths.{Elements}
use Rattle.fp_host.proofs.Looking.{looks_within}
use Rattle.fp_host.proofs.Ending.{ends_on, ends_looks, ends_both}
use Rattle.ost_refs.specs.Walks.{AreBelow}
use Rattle.ost_refs.proofs.Levels.{next_level}
use Rattle.ost_refs.proofs.walking.paths_below.Goals as goal

pub returns-in_err-paths-2-clause-unchanged : goal.returns-in_err-paths-2-clause-unchanged
returns-in_err-paths-2-clause-unchanged g c = looks_within c.children.ensures.unchanged c.loop-level.invariant.still (g.met.H.Host.is_tree c.loop-level.host)

pub loop-level-preserved : goal.loop-level-preserved
loop-level-preserved g c =
    let t = g.met.H.Host.is_tree in
    record {
      still = looks_within c.children.ensures.unchanged c.loop-level.invariant.still (t c.loop-level.host);
      tells = ends_on c.in_ok-paths-2.ensures.tells (ends_both (ends_looks (t c.args.host.now) c.loop-level.invariant.still) c.loop-level.invariant.tells) (t c.loop-level.host) (λ u v w tree q below.
          next_level c.loop-level._level c.args.folder c.loop-level.paths.items c.in_ok-paths-2.paths.items q.1
          (subst (λ x. AreBelow c.loop-level.paths.items x c.in_ok-paths-2.paths.items) q.0.0 (subst (λ (l : List Elements). AreBelow l v c.in_ok-paths-2.paths.items) c.deref.ensures.value below)));
      later = omega (arith, c.loop-level.invariant.later, c.children.ensures.fault_has_cause.later);
    }
