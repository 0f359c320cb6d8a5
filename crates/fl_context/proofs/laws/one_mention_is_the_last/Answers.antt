use Rattle.fl_context.proofs.Merging.{last-one}
use Rattle.fl_context.proofs.laws.one_mention_is_the_last.Goals as goal

pub returns : goal.returns
returns c = last-one
