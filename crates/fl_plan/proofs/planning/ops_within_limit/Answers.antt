use Rattle.std.proofs.Common.{arith}
use Rattle.fl_plan.proofs.Turns.{ops_allowed, ops_coming}
use Rattle.fl_plan.proofs.planning.ops_within_limit.Goals as goal

pub returns-clause-allowed : goal.returns-clause-allowed
returns-clause-allowed c plan_is =
    ops_allowed c.args.state.now c.args.plan.now c.in_ok-ops_of.field-0 c.in_ok-ops_of.ensures (omega (arith, c.number_after.ensures, c.if-number_after-gt-MOST_REFS.false)) plan_is

pub returns-clause-coming : goal.returns-clause-coming
returns-clause-coming c = ops_coming c.args.state.now c.args.plan.now c.in_ok-ops_of.field-0 c.in_ok-ops_of.ensures
