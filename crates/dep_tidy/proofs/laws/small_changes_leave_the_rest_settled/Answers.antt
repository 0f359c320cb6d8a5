use Rattle.dep_tidy.proofs.Small.{small_changes}
use Rattle.dep_tidy.proofs.laws.small_changes_leave_the_rest_settled.Goals as goal

pub returns : goal.returns
returns c = small_changes
