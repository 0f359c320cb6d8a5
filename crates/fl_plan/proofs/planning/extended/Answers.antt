use Rattle.fl_plan.proofs.Parts.{extended_on, extended_err}
use Rattle.fl_plan.proofs.planning.extended.Goals as goal

pub returns-in-Ok-clause-plans : goal.returns-in-Ok-clause-plans
returns-in-Ok-clause-plans g c =
    extended_on c.args.state.now c.args.target.now c.args.runtime.now c.in_ok-plan.plan c.in_ok-plan.ensures c.in-Ok.plan (g.met.H.Host.is_tree c.with_runtime.new.host) c.in-Ok.ensures.plans c.with_extensions.ensures.plans

pub returns-in-Err-clause-plans : goal.returns-in-Err-clause-plans
returns-in-Err-clause-plans g c = extended_err c.args.state.now c.args.target.now c.args.runtime.now c.in_ok-plan.plan c.in_ok-plan.ensures c.in-Err.end c.in-Err.ensures.plans
