use Rattle.fl_plan.proofs.Heads.{chosen_ok, chosen_err}
use Rattle.fl_plan.proofs.choosing.choose.Goals as goal

pub returns-in-Ok-clause-plans : goal.returns-in-Ok-clause-plans
returns-in-Ok-clause-plans g c = chosen_ok c.args.offer c.in-Ok.head c.in-Ok.ensures.looks c.in-Ok.ensures.tells

pub returns-in-Err-clause-plans : goal.returns-in-Err-clause-plans
returns-in-Err-clause-plans g c = chosen_err c.args.offer c.in-Err.end c.in-Err.ensures.looks c.in-Err.ensures.tells
