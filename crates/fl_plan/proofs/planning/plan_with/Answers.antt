use Rattle.fl_plan.proofs.Parts.{with_ok, with_err}
use Rattle.fl_plan.proofs.planning.plan_with.Goals as goal

pub returns-in-Ok-clause-plans : goal.returns-in-Ok-clause-plans
returns-in-Ok-clause-plans g c =
    with_ok c.args.state.now c.args.target.now c.args.runtime.now c.in-Ok.plan c.in-Ok.ensures.plans c.ops_within_limit.ensures.faults (rw c.as_slice.ensures at c.ops_within_limit.ensures.tells)

pub returns-in-Err-clause-plans : goal.returns-in-Err-clause-plans
returns-in-Err-clause-plans g c = with_err c.args.state.now c.args.target.now c.args.runtime.now c.in-Err.end c.in-Err.ensures.plans
