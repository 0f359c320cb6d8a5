use Rattle.fl_change.proofs.Overrides.{last_changed}
use Rattle.fl_change.proofs.laws_of_overrides.changed_overrides_have_the_last.Goals as goal

pub returns : goal.returns
returns c = last_changed
