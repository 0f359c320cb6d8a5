use Rattle.fl_plan.proofs.Parts.{plan_on, plan_err}
use Rattle.fl_plan.proofs.planning.ops.Goals as goal

pub returns-in_ok-offer-in-Ok-clause-plans : goal.returns-in_ok-offer-in-Ok-clause-plans
returns-in_ok-offer-in-Ok-clause-plans g c =
    plan_on c.args.state.now c.args.remote.now c.args.name.now (g.met.H.Host.is_tree c.args.host.now) c.in-Ok.ensures.same c.in-Ok.commit c.in_ok-offer-in-Ok.offer c.in_ok-offer-in-Ok.ensures.is
    c.in-Ok.ensures.tells c.in-Ok.ensures.fault_has_cause.later c.planned_at.ensures.plans

pub returns-in-Err-clause-plans : goal.returns-in-Err-clause-plans
returns-in-Err-clause-plans g c =
    plan_err c.args.state.now c.args.remote.now c.args.name.now (g.met.H.Host.is_tree c.args.host.now) c.in-Err.ensures.same c.in-Err.end c.in-Err.ensures.tells c.in-Err.ensures.host c.in-Err.ensures.fault_has_cause
