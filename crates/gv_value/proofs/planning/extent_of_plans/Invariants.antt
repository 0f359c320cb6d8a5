use Rattle.std.proofs.Common.{drop}
use Rattle.gv_value.specs.Plans.{plan_shapes}
use Rattle.gv_value.proofs.Extents.{SoFar}
use Rattle.gv_value.proofs.planning.extent_of_plans.Given as goal

abbrev pub invariant-loop-plan : goal.invariant-loop-plan
invariant-loop-plan l = SoFar l.run (plan_shapes (drop l.plan-index l.plans)) (plan_shapes l.plans)
