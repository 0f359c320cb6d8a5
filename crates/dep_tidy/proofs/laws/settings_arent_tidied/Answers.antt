use Rattle.dep_tidy.proofs.Left.{config_left, overrides_left}
use Rattle.dep_tidy.proofs.laws.settings_arent_tidied.Goals as goal

pub returns-clause-config : goal.returns-clause-config
returns-clause-config c = config_left

pub returns-clause-overrides : goal.returns-clause-overrides
returns-clause-overrides c = overrides_left
