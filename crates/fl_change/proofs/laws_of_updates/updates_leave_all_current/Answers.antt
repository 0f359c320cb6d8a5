use Rattle.fl_change.proofs.Updates.{update_leaves_current, update_leaves_layout}
use Rattle.fl_change.proofs.laws_of_updates.updates_leave_all_current.Goals as goal

pub returns-clause-current : goal.returns-clause-current
returns-clause-current c = update_leaves_current

pub returns-clause-layout : goal.returns-clause-layout
returns-clause-layout c = update_leaves_layout
