use Rattle.fl_plan.proofs.Parts.{offered_ok, offered_err}
use Rattle.fl_plan.proofs.runtimes.if_offered.Goals as goal

pub returns-in-Ok-clause-plans : goal.returns-in-Ok-clause-plans
returns-in-Ok-clause-plans g c = offered_ok c.args.offer c.in-Some.offer c.in-Some.is c.args.runtime.now c.in-Ok.chosen c.in-Ok.ensures.plans

pub returns-in-Err-clause-plans : goal.returns-in-Err-clause-plans
returns-in-Err-clause-plans g c = offered_err c.args.offer c.in-Some.offer c.in-Some.is c.args.runtime.now c.in-Err.end c.in-Err.ensures.plans
