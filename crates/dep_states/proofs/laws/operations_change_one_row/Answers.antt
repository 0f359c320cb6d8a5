use Rattle.dep_states.proofs.Changes.{after_install, after_update, after_uninstall, after_rollback}
use Rattle.dep_states.proofs.laws.operations_change_one_row.Goals as goal

pub returns-clause-install : goal.returns-clause-install
returns-clause-install c = λ s name remote commit time up none. after_install s up name remote commit time none

pub returns-clause-update : goal.returns-clause-update
returns-clause-update c = λ s name remote commit time row up is. after_update s up name remote commit time row is

pub returns-clause-uninstall : goal.returns-clause-uninstall
returns-clause-uninstall c = λ s name time up. after_uninstall s up name time

pub returns-clause-rollback : goal.returns-clause-rollback
returns-clause-rollback c = λ s commit time row p up is before. after_rollback s up commit time row p is before
