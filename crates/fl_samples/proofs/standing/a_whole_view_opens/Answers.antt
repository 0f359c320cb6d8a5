use Rattle.fl_samples.proofs.WholeView.{whole_tree, whole_quiet, whole_seen, whole_opens, whole_is_sound, any_opens}
use Rattle.fl_samples.proofs.standing.a_whole_view_opens.Goals as goal

pub returns-clause-tree : goal.returns-clause-tree
returns-clause-tree c = whole_tree

pub returns-clause-settled : goal.returns-clause-settled
returns-clause-settled c = whole_quiet

pub returns-clause-shown : goal.returns-clause-shown
returns-clause-shown c = whole_seen

pub returns-clause-opens : goal.returns-clause-opens
returns-clause-opens c = whole_opens

pub returns-clause-sound : goal.returns-clause-sound
returns-clause-sound c = whole_is_sound

pub returns-clause-each : goal.returns-clause-each
returns-clause-each c = any_opens
