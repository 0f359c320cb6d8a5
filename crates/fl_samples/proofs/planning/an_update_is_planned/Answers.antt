use Rattle.fl_samples.proofs.Planned.{app_planned, locale_planned, platform_planned}
use Rattle.fl_samples.proofs.planning.an_update_is_planned.Goals as goal

pub returns-clause-app : goal.returns-clause-app
returns-clause-app c = app_planned

pub returns-clause-extension : goal.returns-clause-extension
returns-clause-extension c = locale_planned

pub returns-clause-runtime : goal.returns-clause-runtime
returns-clause-runtime c = platform_planned
