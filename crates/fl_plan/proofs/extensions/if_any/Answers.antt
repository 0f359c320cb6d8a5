use Rattle.fl_plan.proofs.Parts.{any_ok, any_err}
use Rattle.fl_plan.proofs.extensions.if_any.Goals as goal

pub returns-in-Ok-clause-plans : goal.returns-in-Ok-clause-plans
returns-in-Ok-clause-plans g c = any_ok c.args.offer c.in-Some.offer c.in-Some.is c.in-Ok.chosen c.in-Ok.ensures.plans

pub returns-in-Err-clause-plans : goal.returns-in-Err-clause-plans
returns-in-Err-clause-plans g c = any_err c.args.offer c.in-Some.offer c.in-Some.is c.in-Err.end c.in-Err.ensures.plans
