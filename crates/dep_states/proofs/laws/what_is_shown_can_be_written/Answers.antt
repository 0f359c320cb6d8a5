use Rattle.dep_states.proofs.Good.{shown_good}
use Rattle.dep_states.proofs.laws.what_is_shown_can_be_written.Goals as goal

pub returns : goal.returns
returns c = shown_good
