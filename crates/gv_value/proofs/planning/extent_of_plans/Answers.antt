use Rattle.std.proofs.Common.{◌≡◌, ◌+◌, List, ◌∷◌, drop, sym, ap, ◌∙◌, subst, IsTrue}
use Rattle.std.proofs.lemmas.List.{drop_more}
use Rattle.gv_value.specs.Plans.{plan_shape, is_plan, plan_shapes}
use Rattle.gv_value.specs.declared.plan.Plan.{Plan}
use Rattle.gv_value.proofs.Extents.{SoFar, so_far-none, so_far-more}
use Rattle.gv_value.proofs.Planned.{good_at}
use Rattle.gv_value.proofs.planning.extent_of_plans.Goals as goal

pub loop-plan-init : goal.loop-plan-init
loop-plan-init c = so_far-none c.no_members-run.result (plan_shapes c.args.plans.now) c.no_members-run.ensures.align c.no_members-run.ensures.end

pub extent-requires : goal.extent-requires
extent-requires c = subst (λ (p : Plan). IsTrue (is_plan p)) (sym c.plan-item.is) (good_at c.args.plans.now c.loop-plan.plan-index c.plan-item.result c.loop-plan-test.true c.requires)

pub loop-plan-preserved : goal.loop-plan-preserved
loop-plan-preserved c =
    let l = c.loop-plan in
    let ps = c.args.plans.now in
    let x = c.plan-item.result in
    let here : drop l.plan-index ps ≡ x ∷ drop (l.plan-index + 1) ps =
    drop_more ps l.plan-index x c.loop-plan-test.true ∙ ap (λ (y : Plan). y ∷ drop (l.plan-index + 1) ps) (sym c.plan-item.is) in
    so_far-more l.run c.extent.result c.with_member-run.result (plan_shape x) (plan_shapes (drop (l.plan-index + 1) ps)) (plan_shapes ps)
    (subst (λ (ys : List Plan). SoFar l.run (plan_shapes ys) (plan_shapes ps)) here l.invariant)
    c.extent.ensures c.with_member-run.ensures.align c.with_member-run.ensures.end
