use Rattle.std.proofs.Common.{◌≡◌, ◌+◌, ℕ, List, [], length, vec_len, sym, ap, subst, arith}
use Rattle.std.proofs.lemmas.Bool.{eqb-true, eqb-false}
use Rattle.fp_host.specs.Paths.{Elements}
use Rattle.fp_host.specs.View.{View, IsTree}
use Rattle.fp_host.proofs.Looking.{looks_start, looks_within}
use Rattle.fp_host.proofs.Ending.{ends_start, ends_to, ends_on, ends_looks, ends_both, ends_in_tree}
use Rattle.ost_store.specs.Walks.{VisitsAll}
use Rattle.ost_store.proofs.Lists.{empty_items}
use Rattle.ost_store.proofs.Levels.{IsAtLevel, first_level, next_level, all_found, all_reached, none_left}
use Rattle.ost_store.proofs.walking.leaves_within.Goals as goal

pub returns-in_err-level-2-clause-unchanged : goal.returns-in_err-level-2-clause-unchanged
returns-in_err-level-2-clause-unchanged g c = looks_within c.visit_all.ensures.unchanged c.loop-depth.invariant.still (g.met.H.Host.is_tree c.loop-depth.host)

pub loop-depth-init : goal.loop-depth-init
loop-depth-init g c =
    let t = g.met.H.Host.is_tree in
    record {
      still = looks_start (t c.args.host.now);
      tells = ends_to (ends_start (t c.args.host.now)) (λ u w same. first_level u c.args.folder c.in_ok-level.level.items c.new-found.result.items c.in_ok-level.ensures c.new-found.ensures.items);
      later = omega arith;
    }

pub loop-depth-preserved : goal.loop-depth-preserved
loop-depth-preserved g c =
    let t = g.met.H.Host.is_tree in
    record {
      still = looks_within c.visit_all.ensures.unchanged c.loop-depth.invariant.still (t c.loop-depth.host);
      tells = ends_on c.in_ok-level-2.ensures.tells (ends_both (ends_looks (t c.args.host.now) c.loop-depth.invariant.still) c.loop-depth.invariant.tells) (t c.loop-depth.host) (λ u v w tree q all.
          next_level c.loop-depth._depth c.args.folder c.loop-depth.level.items c.loop-depth.found.items c.visit_all.new.found.items c.in_ok-level-2.level.items q.1
          (subst (λ (x : View). VisitsAll c.loop-depth.level.items x c.loop-depth.found.items c.visit_all.new.found.items c.in_ok-level-2.level.items) q.0.0
          (subst (λ (l : List Elements). VisitsAll l v c.loop-depth.found.items c.visit_all.new.found.items c.in_ok-level-2.level.items) c.deref.ensures.value all)));
      later = omega (arith, c.loop-depth.invariant.later, c.visit_all.ensures.fault_has_cause.later);
    }

pub returns-then-is_empty-clause-tells : goal.returns-then-is_empty-clause-tells
returns-then-is_empty-clause-tells g c =
    let t = g.met.H.Host.is_tree in
    let none : c.loop-depth.level.items ≡ [] = empty_items c.loop-depth.level.items (omega (arith, c.loop-depth.level.ok.0, eqb-true (vec_len c.loop-depth.level) 0 (sym c.if-is_empty.ensures))) in
    ends_in_tree (t c.loop-depth.host) (ends_both (ends_looks (t c.args.host.now) c.loop-depth.invariant.still) c.loop-depth.invariant.tells) (λ u w tree q. all_found c.loop-depth._depth c.args.folder c.loop-depth.level.items c.loop-depth.found.items (subst IsTree q.0.0 tree) q.1 none)

pub returns-then-is_empty-clause-reach : goal.returns-then-is_empty-clause-reach
returns-then-is_empty-clause-reach g c =
    let t = g.met.H.Host.is_tree in
    let full : c.loop-depth._depth ≡ 127 + 1 = omega arith in
    let none : c.loop-depth.level.items ≡ [] = empty_items c.loop-depth.level.items (omega (arith, c.loop-depth.level.ok.0, eqb-true (vec_len c.loop-depth.level) 0 (sym c.if-is_empty.ensures))) in
    ends_in_tree (t c.loop-depth.host) (ends_both (ends_looks (t c.args.host.now) c.loop-depth.invariant.still) c.loop-depth.invariant.tells) (λ u w tree q.
    all_reached 127 c.args.folder c.loop-depth.level.items c.loop-depth.found.items (subst IsTree q.0.0 tree)
    (subst (λ (k : ℕ). IsAtLevel k c.args.folder u c.loop-depth.level.items c.loop-depth.found.items) full q.1) none)

pub returns-else-is_empty-clause-fault_has_cause : goal.returns-else-is_empty-clause-fault_has_cause
returns-else-is_empty-clause-fault_has_cause g c = record {
  later = c.loop-depth.invariant.later;
  fault = λ is m told can.
      let full : c.loop-depth._depth ≡ 127 + 1 = omega arith in
      let none = none_left 127 c.args.folder c.loop-depth.level.items c.loop-depth.found.items can (subst (λ (k : ℕ). IsAtLevel k c.args.folder m.now c.loop-depth.level.items c.loop-depth.found.items) full (c.loop-depth.invariant.tells.goes.told m told).3) in
      absurd (eqb-false (vec_len c.loop-depth.level) 0 (sym c.if-is_empty.ensures) (omega (arith, c.loop-depth.level.ok.0, ap (λ (l : List Elements). length l) none)));
}
