use Rattle.fl_samples.proofs.OldLayout.{old_shows, old_sound, old_good, old_tree, old_quiet, old_opens}
use Rattle.fl_samples.proofs.Operations.{may_migrate, migrates}
use Rattle.fl_samples.proofs.standing.an_old_installation_may_migrate.Goals as goal

pub returns-clause-shown : goal.returns-clause-shown
returns-clause-shown c = old_shows

pub returns-clause-sound : goal.returns-clause-sound
returns-clause-sound c = old_sound

pub returns-clause-tree : goal.returns-clause-tree
returns-clause-tree c = old_tree

pub returns-clause-settled : goal.returns-clause-settled
returns-clause-settled c = old_quiet

pub returns-clause-opens : goal.returns-clause-opens
returns-clause-opens c = old_opens

pub returns-clause-good : goal.returns-clause-good
returns-clause-good c = old_good

pub returns-clause-may : goal.returns-clause-may
returns-clause-may c = may_migrate

pub returns-clause-after : goal.returns-clause-after
returns-clause-after c = migrates
