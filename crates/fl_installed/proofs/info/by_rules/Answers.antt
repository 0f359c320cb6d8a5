use Rattle.fl_installed.proofs.Distinct.{meta_distinct}
use Rattle.fl_installed.proofs.info.by_rules.Goals as goal

pub returns-in-Ok-clause-once : goal.returns-in-Ok-clause-once
returns-in-Ok-clause-once c = meta_distinct _ c.args.file.now c.in-Ok.meta c.groups-groups.ensures.good c.in-Ok.ensures
