use Rattle.fl_plan.proofs.Taking.{plan_settles}
use Rattle.fl_plan.proofs.laws.plans_settle.Goals as goal

pub returns : goal.returns
returns c b = plan_settles b.held b.stored b.state
