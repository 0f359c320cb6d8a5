use Rattle.fl_meta.proofs.Tidy.{tidy_same}
use Rattle.fl_meta.proofs.laws.a_normal_text_stays.Goals as goal

pub returns : goal.returns
returns c = tidy_same
