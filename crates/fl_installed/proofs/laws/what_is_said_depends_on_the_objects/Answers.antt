use Rattle.fl_installed.proofs.Standing.{metadata_is_local}
use Rattle.fl_installed.proofs.Local.{user_is_local, metas_are_local, points_are_local}
use Rattle.fl_installed.proofs.laws.what_is_said_depends_on_the_objects.Goals as goal

pub returns-clause-metadata : goal.returns-clause-metadata
returns-clause-metadata c = metadata_is_local

pub returns-clause-user : goal.returns-clause-user
returns-clause-user c = user_is_local

pub returns-clause-metas : goal.returns-clause-metas
returns-clause-metas c = metas_are_local

pub returns-clause-points : goal.returns-clause-points
returns-clause-points c = points_are_local
