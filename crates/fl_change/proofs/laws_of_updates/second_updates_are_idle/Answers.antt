use Rattle.fl_change.proofs.Updates.{second_is_idle}
use Rattle.fl_change.proofs.laws_of_updates.second_updates_are_idle.Goals as goal

pub returns : goal.returns
returns c = second_is_idle
