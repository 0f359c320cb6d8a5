use Rattle.std.proofs.Common.{List, ℕ, sym, ◌∙◌, subst}
use Rattle.fp_host.specs.View.{View}
use Rattle.fp_host.proofs.Cause.{same_fault}
use Rattle.fp_host.proofs.Ending.{ends_on, ends_both, ends_looks, ends_to, fault_caused}
use Rattle.fp_small.specs.Unsynced.{MakesNoFile}
use Rattle.fp_small.proofs.Unsynced.{none_same}
use Rattle.fp_base.specs.declared.object.ObjKind.{ObjKind}
use Rattle.ost_store.specs.Names.{CanList}
use Rattle.ost_prune.specs.Prune.{ListsUnused}
use Rattle.ost_prune.specs.Removing.{CanRemoveAll}
use Rattle.ost_prune.proofs.Found.{of_found}
use Rattle.ost_prune.proofs.Pruned.{looked, pruning, can_remove_all, was_pruned}
use Rattle.ost_prune.proofs.Parted.{looked_order, pruned_order}
use Rattle.ost_prune.proofs.pruning.prune.Goals as goal

pub returns-in_err-unused-clause-any_moment : goal.returns-in_err-unused-clause-any_moment
returns-in_err-unused-clause-any_moment g c = looked (g.met.H.Host.is_tree c.args.host.now) c.find_unused.ensures.unchanged

pub returns-in_err-unused-clause-order : goal.returns-in_err-unused-clause-order
returns-in_err-unused-clause-order g c = looked_order (g.met.H.Host.is_tree c.args.host.now) c.find_unused.ensures.unchanged

pub returns-in_err-unused-clause-unsynced : goal.returns-in_err-unused-clause-unsynced
returns-in_err-unused-clause-unsynced g c = ends_to (ends_looks (g.met.H.Host.is_tree c.args.host.now) c.find_unused.ensures.unchanged) (λ u w q. none_same q.0)

pub returns-in_err-unused-clause-fault_has_cause : goal.returns-in_err-unused-clause-fault_has_cause
returns-in_err-unused-clause-fault_has_cause g c = record {
  later = c.find_unused.ensures.fault_has_cause.later;
  fault = λ is m at can. c.find_unused.ensures.fault_has_cause.fault (same_fault _ _ _ c.in_err-unused.was c.from_residual.ensures.1 is) m at tt;
}

pub returns-in_default-clause-any_moment : goal.returns-in_default-clause-any_moment
returns-in_default-clause-any_moment g c = looked (g.met.H.Host.is_tree c.args.host.now) c.find_unused.ensures.unchanged

pub returns-in_default-clause-order : goal.returns-in_default-clause-order
returns-in_default-clause-order g c = looked_order (g.met.H.Host.is_tree c.args.host.now) c.find_unused.ensures.unchanged

pub returns-in_default-clause-unsynced : goal.returns-in_default-clause-unsynced
returns-in_default-clause-unsynced g c = ends_to (ends_looks (g.met.H.Host.is_tree c.args.host.now) c.find_unused.ensures.unchanged) (λ u w q. none_same q.0)

pub returns-in_err-remove_all-clause-any_moment : goal.returns-in_err-remove_all-clause-any_moment
returns-in_err-remove_all-clause-any_moment g c =
    let t = g.met.H.Host.is_tree in
    pruning (t c.args.host.now) (t c.find_unused.new.host) c.find_unused.ensures.unchanged (ends_to c.in_ok-unused.ensures.tells (λ u w l. subst (λ (o : List (List ℕ × ObjKind)). ListsUnused c.args.root.now c.args.keep.now u o) (sym c.deref.ensures.value) (of_found c.in-Some.is c.args.root.now c.args.keep.now u (λ objects. ListsUnused c.args.root.now c.args.keep.now u objects.items) l))) c.remove_all.ensures.frame

pub returns-in_err-remove_all-clause-order : goal.returns-in_err-remove_all-clause-order
returns-in_err-remove_all-clause-order g c =
    let t = g.met.H.Host.is_tree in
    pruned_order (t c.args.host.now) (t c.find_unused.new.host) c.find_unused.ensures.unchanged (ends_to c.in_ok-unused.ensures.tells (λ u w l. subst (λ (o : List (List ℕ × ObjKind)). ListsUnused c.args.root.now c.args.keep.now u o) (sym c.deref.ensures.value) (of_found c.in-Some.is c.args.root.now c.args.keep.now u (λ objects. ListsUnused c.args.root.now c.args.keep.now u objects.items) l))) c.remove_all.ensures.order

pub returns-in_err-remove_all-clause-unsynced : goal.returns-in_err-remove_all-clause-unsynced
returns-in_err-remove_all-clause-unsynced g c =
    let t = g.met.H.Host.is_tree in
    ends_on c.remove_all.ensures.unsynced (ends_looks (t c.args.host.now) c.find_unused.ensures.unchanged) (t c.find_unused.new.host) (λ u v w tree q s. subst (λ (x : View). MakesNoFile x w) q.0 s)

pub returns-in_err-remove_all-clause-fault_has_cause : goal.returns-in_err-remove_all-clause-fault_has_cause
returns-in_err-remove_all-clause-fault_has_cause g c =
    let t = g.met.H.Host.is_tree in
    fault_caused (CanList c.args.root.now) (CanRemoveAll c.args.root.now c.deref.result.now) _ _ _ _ _ (t c.args.host.now) c.find_unused.ensures.fault_has_cause.later
    (ends_both (ends_looks (t c.args.host.now) c.find_unused.ensures.unchanged) (ends_to c.in_ok-unused.ensures.tells (λ u w l. subst (λ (o : List (List ℕ × ObjKind)). ListsUnused c.args.root.now c.args.keep.now u o) (sym c.deref.ensures.value) (of_found c.in-Some.is c.args.root.now c.args.keep.now u (λ objects. ListsUnused c.args.root.now c.args.keep.now u objects.items) l)))) c.remove_all.ensures.fault_has_cause
    (same_fault _ _ _ c.in_err-remove_all.was c.from_residual-in_err-remove_all.ensures.1) (λ u v tree q can. can_remove_all q.0.0 q.1)

pub returns-clause-any_moment : goal.returns-clause-any_moment
returns-clause-any_moment g c =
    let t = g.met.H.Host.is_tree in
    pruning (t c.args.host.now) (t c.find_unused.new.host) c.find_unused.ensures.unchanged (ends_to c.in_ok-unused.ensures.tells (λ u w l. subst (λ (o : List (List ℕ × ObjKind)). ListsUnused c.args.root.now c.args.keep.now u o) (sym c.deref.ensures.value) (of_found c.in-Some.is c.args.root.now c.args.keep.now u (λ objects. ListsUnused c.args.root.now c.args.keep.now u objects.items) l))) c.remove_all.ensures.frame

pub returns-clause-order : goal.returns-clause-order
returns-clause-order g c =
    let t = g.met.H.Host.is_tree in
    pruned_order (t c.args.host.now) (t c.find_unused.new.host) c.find_unused.ensures.unchanged (ends_to c.in_ok-unused.ensures.tells (λ u w l. subst (λ (o : List (List ℕ × ObjKind)). ListsUnused c.args.root.now c.args.keep.now u o) (sym c.deref.ensures.value) (of_found c.in-Some.is c.args.root.now c.args.keep.now u (λ objects. ListsUnused c.args.root.now c.args.keep.now u objects.items) l))) c.remove_all.ensures.order

pub returns-clause-on_success : goal.returns-clause-on_success
returns-clause-on_success g c =
    let t = g.met.H.Host.is_tree in
    ends_on c.in_ok-remove_all.ensures.on_success (ends_both (ends_looks (t c.args.host.now) c.find_unused.ensures.unchanged) (ends_to c.in_ok-unused.ensures.tells (λ u w l. subst (λ (o : List (List ℕ × ObjKind)). ListsUnused c.args.root.now c.args.keep.now u o) (sym c.deref.ensures.value) (of_found c.in-Some.is c.args.root.now c.args.keep.now u (λ objects. ListsUnused c.args.root.now c.args.keep.now u objects.items) l)))) (t c.find_unused.new.host)
    (λ u v w tree q gone. was_pruned q.1 gone (c.len.ensures ∙ sym c.deref.ensures.len))

pub returns-clause-unsynced : goal.returns-clause-unsynced
returns-clause-unsynced g c =
    let t = g.met.H.Host.is_tree in
    ends_on c.remove_all.ensures.unsynced (ends_looks (t c.args.host.now) c.find_unused.ensures.unchanged) (t c.find_unused.new.host) (λ u v w tree q s. subst (λ (x : View). MakesNoFile x w) q.0 s)
