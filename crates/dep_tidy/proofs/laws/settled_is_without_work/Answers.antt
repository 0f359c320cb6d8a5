use Rattle.dep_tidy.proofs.Small.{work_apart}
use Rattle.dep_tidy.proofs.laws.settled_is_without_work.Goals as goal

pub returns : goal.returns
returns c = work_apart
