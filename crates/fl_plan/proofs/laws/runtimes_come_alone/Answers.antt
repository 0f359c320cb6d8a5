use Rattle.fl_plan.proofs.Rows.{runtime_alone}
use Rattle.fl_plan.proofs.laws.runtimes_come_alone.Goals as goal

pub returns : goal.returns
returns c b target is = runtime_alone b.held b.stored b.state target.remote target.name target.commit is.head is.is is.says
