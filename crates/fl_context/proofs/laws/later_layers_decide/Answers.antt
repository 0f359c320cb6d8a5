use Rattle.fl_context.proofs.Merging.{last_mention-append}
use Rattle.fl_context.proofs.laws.later_layers_decide.Goals as goal

pub returns : goal.returns
returns c = last_mention-append
