use Rattle.std.proofs.Common.{◌≡◌, ◌++◌, drop, map}
use Rattle.fl_plan.specs.Plans.{op_of}
use Rattle.fl_plan.proofs.planning.ops_of.Given as goal

abbrev pub invariant-loop-offer : goal.invariant-loop-offer
invariant-loop-offer l = l.ops ++ map (op_of l.state) (drop l.offer-index l.plan) ≡ map (op_of l.state) l.plan
