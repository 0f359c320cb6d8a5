use Rattle.fl_change.proofs.OverrideRows.{network_denied, last_variable}
use Rattle.fl_change.proofs.laws_of_overrides.sample_options_make_overrides.Goals as goal

pub returns-clause-denied : goal.returns-clause-denied
returns-clause-denied c = network_denied

pub returns-clause-last : goal.returns-clause-last
returns-clause-last c = last_variable
