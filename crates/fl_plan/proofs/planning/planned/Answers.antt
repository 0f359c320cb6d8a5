use Rattle.fl_plan.proofs.Parts.{planned_on, planned_err, runtime_apart}
use Rattle.fl_plan.proofs.planning.planned.Goals as goal

pub plan_with-requires-clause-runtime : goal.plan_with-requires-clause-runtime
plan_with-requires-clause-runtime g c = runtime_apart c.args.state.now c.args.target.now c.in_ok-named.named c.in_ok-named.ensures c.in-Ok.runtime c.in-Ok.ensures.good

pub returns-in-Ok-clause-plans : goal.returns-in-Ok-clause-plans
returns-in-Ok-clause-plans g c =
    planned_on c.args.state.now c.args.target.now c.in_ok-named.named c.in_ok-named.ensures c.in-Ok.runtime (g.met.H.Host.is_tree c.if_named.new.host) c.in-Ok.ensures.plans c.plan_with.ensures.plans

pub returns-in-Err-clause-plans : goal.returns-in-Err-clause-plans
returns-in-Err-clause-plans g c = planned_err c.args.state.now c.args.target.now c.in_ok-named.named c.in_ok-named.ensures c.in-Err.end c.in-Err.ensures.plans
