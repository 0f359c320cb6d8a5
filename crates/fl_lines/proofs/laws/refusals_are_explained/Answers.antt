use Rattle.fl_lines.proofs.Explained.{explained}
use Rattle.fl_lines.proofs.laws.refusals_are_explained.Goals as goal

pub returns : goal.returns
returns c = explained
