use Rattle.fl_change.proofs.Updates.{update_is_idle}
use Rattle.fl_change.proofs.laws_of_updates.updates_of_what_is_current_are_idle.Goals as goal

pub returns : goal.returns
returns c = update_is_idle
