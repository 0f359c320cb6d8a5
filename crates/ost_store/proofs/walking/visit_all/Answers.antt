use Rattle.std.proofs.Common.{subst, arith}
use Rattle.fp_host.specs.View.{View}
use Rattle.fp_host.proofs.Looking.{looks_start, looks_within}
use Rattle.fp_host.proofs.Ending.{ends_start, ends_to, ends_on, ends_looks, ends_both}
use Rattle.ost_store.specs.Walks.{Visits}
use Rattle.ost_store.proofs.Levels.{none_visited, next_visited}
use Rattle.ost_store.proofs.walking.visit_all.Goals as goal

pub returns-in_err-visit-clause-unchanged : goal.returns-in_err-visit-clause-unchanged
returns-in_err-visit-clause-unchanged g c = looks_within c.visit.ensures.unchanged c.loop-path.invariant.still (g.met.H.Host.is_tree c.loop-path.host)

pub loop-path-init : goal.loop-path-init
loop-path-init g c =
    let t = g.met.H.Host.is_tree in
    record {
      still = looks_start (t c.args.host.now);
      tells = ends_to (ends_start (t c.args.host.now)) (λ u w same. none_visited u c.args.found.now.items c.new-next.result.items c.new-next.ensures.items);
      later = omega arith;
    }

pub loop-path-preserved : goal.loop-path-preserved
loop-path-preserved g c =
    let t = g.met.H.Host.is_tree in
    let p = c.path-item.result in
    record {
      still = looks_within c.visit.ensures.unchanged c.loop-path.invariant.still (t c.loop-path.host);
      tells = ends_on c.in_ok-visit.ensures.tells (ends_both (ends_looks (t c.args.host.now) c.loop-path.invariant.still) c.loop-path.invariant.tells) (t c.loop-path.host) (λ u v w tree q one.
          next_visited c.args.paths.now c.loop-path.path-index p c.args.found.now.items c.loop-path.found.items c.visit.new.found.items c.loop-path.next.items c.visit.new.next.items c.loop-path-test.true c.path-item.is q.1
          (subst (λ (x : View). Visits p x c.loop-path.found.items c.loop-path.next.items c.visit.new.found.items c.visit.new.next.items) q.0.0 one));
      later = omega (arith, c.loop-path.invariant.later, c.visit.ensures.fault_has_cause.later);
    }
