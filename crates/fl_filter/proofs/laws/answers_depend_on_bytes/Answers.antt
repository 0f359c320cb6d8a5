use Rattle.fl_filter.proofs.Alike.{same_answer}
use Rattle.fl_filter.proofs.laws.answers_depend_on_bytes.Goals as goal

pub returns : goal.returns
returns c = same_answer
