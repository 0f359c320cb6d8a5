use Rattle.std.proofs.Common.{◌≡◌, ◌<◌, List, length, ◌∷◌, ap, ◌∙◌, subst, arith, IsTrue, rules}
use Rattle.gv_value.specs.Framing.{offset_count}
use Rattle.gv_value.specs.Plans.{plan_shapes, is_plan, are_plans}
use Rattle.gv_value.specs.declared.plan.Plan.{Plan}
use Rattle.std.proofs.lemmas.Bool.{and_parts}
use Rattle.gv_decode.proofs.Tables.{count-more}
use Rattle.gv_decode.proofs.framing.offset_count.Goals as goal

pub overflow_add-count : goal.overflow_add-count
overflow_add-count c = search rules

pub loop-plan-preserved-then-not-is_empty : goal.loop-plan-preserved-then-not-is_empty
loop-plan-preserved-then-not-is_empty c =
    let l = c.loop-plan in
    let p = c.in-Some.plan.now in
    let ps = c.in-Some.others.now in
    let here : l.left.now ≡ p ∷ ps = search rules in
    let some : 0 < length ps = search rules in
    let one = count-more c.extent.result p ps c.extent.ensures (search rules) some in
    let counted = ap (λ (xs : List Plan). offset_count (plan_shapes xs)) here ∙ one in
    record {
      good = (and_parts (is_plan p) (are_plans ps) (subst (λ (xs : List Plan). IsTrue (are_plans xs)) here l.invariant.good)).1;
      counted = omega (arith, counted, l.invariant.counted);
      within = omega (arith, ap length here, l.invariant.within);
    }
