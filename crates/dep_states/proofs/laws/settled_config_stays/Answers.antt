use Rattle.dep_states.proofs.Usual.{settled_config}
use Rattle.dep_states.proofs.laws.settled_config_stays.Goals as goal

pub returns : goal.returns
returns c = settled_config
