use Rattle.std.proofs.Common.{◌≡◌, ◌+◌, ◌≤◌, length, IsTrue}
use Rattle.gv_value.specs.Framing.{offset_count}
use Rattle.gv_value.specs.Plans.{plan_shapes, are_plans}
use Rattle.gv_decode.proofs.framing.offset_count.Given as goal

abbrev pub invariant-loop-plan : goal.invariant-loop-plan
invariant-loop-plan l = record {
  within : l.count + length l.left ≤ length l.plans;
  good : IsTrue (are_plans l.left);
  counted : l.count + offset_count (plan_shapes l.left) ≡ offset_count (plan_shapes l.plans);
}

abbrev pub decreases-loop-plan : goal.decreases-loop-plan
decreases-loop-plan l = length l.left
