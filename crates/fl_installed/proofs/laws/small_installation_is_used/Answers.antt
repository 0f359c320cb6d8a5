use Rattle.fl_installed.proofs.Samples.{base_user, platform_user, no_user, metas_are, points_are}
use Rattle.fl_installed.proofs.laws.small_installation_is_used.Goals as goal

pub returns-clause-base : goal.returns-clause-base
returns-clause-base c = base_user

pub returns-clause-platform : goal.returns-clause-platform
returns-clause-platform c = platform_user

pub returns-clause-none : goal.returns-clause-none
returns-clause-none c = no_user

pub returns-clause-metas : goal.returns-clause-metas
returns-clause-metas c = metas_are

pub returns-clause-points : goal.returns-clause-points
returns-clause-points c = points_are
