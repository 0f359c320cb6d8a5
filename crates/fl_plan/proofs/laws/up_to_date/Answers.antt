use Rattle.fl_plan.proofs.Rows.{up_to_date}
use Rattle.fl_plan.proofs.laws.up_to_date.Goals as goal

pub returns : goal.returns
returns c b target = up_to_date b.held b.stored b.state target.remote target.name target.commit
