use Rattle.std.proofs.Common.{◌≡◌, ◌+◌, ◌<◌, List, [], ◌∷◌, ◌++◌, take, sym, ap, ap₂, ◌∙◌, subst, arith, rules}
use Rattle.std.proofs.lemmas.List.{take_more}
use Rattle.gv_value.specs.Capped.{IsRun}
use Rattle.gv_value.specs.Layout.{greatest_align, end_of}
use Rattle.gv_value.specs.Plans.{plan_shapes, ArePlansOf, IsPlanOf}
use Rattle.gv_value.specs.Shape.{Shape}
use Rattle.gv_value.specs.Views.{shape_of, shapes_of}
use Rattle.gv_value.specs.declared.plan.Plan.{Plan}
use Rattle.gv_value.specs.declared.types.GvType.{GvType}
use Rattle.gv_value.proofs.Extents.{filled-from}
use Rattle.gv_value.proofs.Nodes.{nodes, all_nodes, member_nodes}
use Rattle.gv_value.proofs.Planned.{tuple-plan, entry-plan, plans-more}
use Rattle.gv_value.proofs.planning.+plan.Goals as goal

pub plan_of-returns-in_ok-plans-in-Tuple : goal.plan_of-returns-in_ok-plans-in-Tuple
plan_of-returns-in_ok-plans-in-Tuple t c =
    let ps = c.in_ok-plans-in-Tuple.plans in
    let are : ArePlansOf ps.items (shapes_of c.in-Tuple.members.now) = search rules in
    let e = c.extent_of_plans.result in
    let extent : IsRun e (greatest_align (plan_shapes ps.items)) (end_of 0 (plan_shapes ps.items)) =
    subst (λ (xs : List Plan). IsRun e (greatest_align (plan_shapes xs)) (end_of 0 (plan_shapes xs))) c.deref.ensures.value c.extent_of_plans.ensures in
    subst (IsPlanOf _) c.in-Tuple.ensures (tuple-plan e ps (shapes_of c.in-Tuple.members.now) are extent)

pub plan_of-returns-in_ok-push-in-Entry-2 : goal.plan_of-returns-in_ok-push-in-Entry-2
plan_of-returns-in_ok-push-in-Entry-2 t c =
    let ps = c.push-in-Entry.new.self in
    let e = c.extent_of_plans-in-Entry.result in
    let k = c.in_ok-plan_of-in-Entry.field-0 in
    let v = c.in_ok-plan_of-in-Entry-2.field-0 in
    let items : ps.items ≡ k ∷ v ∷ [] = search rules in
    let is_k : IsPlanOf k (shape_of c.in-Entry.key.now) = search rules in
    let is_v : IsPlanOf v (shape_of c.in-Entry.value.now) = search rules in
    let extent : IsRun e (greatest_align (plan_shapes ps.items)) (end_of 0 (plan_shapes ps.items)) =
    subst (λ (xs : List Plan). IsRun e (greatest_align (plan_shapes xs)) (end_of 0 (plan_shapes xs))) c.deref-in-Entry.ensures.value c.extent_of_plans-in-Entry.ensures in
    subst (IsPlanOf _) c.in-Entry.ensures (entry-plan e ps k v (shape_of c.in-Entry.key.now) (shape_of c.in-Entry.value.now) items is_k is_v extent)

pub plans_of-plan_of-requires : goal.plans_of-plan_of-requires
plans_of-plan_of-requires t c =
    let i = c.loop-member.member-index in
    let ts = c.args.members.now in
    let smaller : nodes (shape_of c.member-item.result) < all_nodes (shapes_of ts) =
    subst (λ (x : GvType). nodes (shape_of x) < all_nodes (shapes_of ts)) (sym c.member-item.is) (member_nodes ts i c.member-item.result c.loop-member-test.true) in
    search rules

pub plans_of-loop-member-preserved : goal.plans_of-loop-member-preserved
plans_of-loop-member-preserved t c =
    let i = c.loop-member.member-index in
    let ts = c.args.members.now in
    let x = c.member-item.result in
    let p = c.in_ok-plan_of.field-0 in
    let is : IsPlanOf p (shape_of x) = search rules in
    let items : c.push.new.self.items ≡ c.loop-member.plans.items ++ p ∷ [] = search rules in
    let there : take (i + 1) ts ≡ take i ts ++ x ∷ [] = take_more ts i x c.loop-member-test.true ∙ ap (λ (y : GvType). take i ts ++ y ∷ []) (sym c.member-item.is) in
    subst (λ (xs : List Plan). ArePlansOf xs (shapes_of (take (i + 1) ts))) (sym items)
    (subst (λ (ys : List GvType). ArePlansOf (c.loop-member.plans.items ++ p ∷ []) (shapes_of ys)) (sym there)
    (plans-more c.loop-member.plans.items p (take i ts) x c.loop-member.invariant is))
