use Rattle.std.proofs.Common.{take}
use Rattle.gv_value.specs.Plans.{ArePlansOf}
use Rattle.gv_value.specs.Views.{shape_of, shapes_of}
use Rattle.gv_value.proofs.Nodes.{nodes, all_nodes}
use Rattle.gv_value.proofs.planning.+plan.Given as goal

abbrev pub decreases-plan_of : goal.decreases-plan_of
decreases-plan_of l = nodes (shape_of l.of.now)

abbrev pub decreases-plans_of : goal.decreases-plans_of
decreases-plans_of l = all_nodes (shapes_of l.members.now)

abbrev pub invariant-plans_of-loop-member : goal.invariant-plans_of-loop-member
invariant-plans_of-loop-member l = ArePlansOf l.plans.items (shapes_of (take l.member-index l.members))
