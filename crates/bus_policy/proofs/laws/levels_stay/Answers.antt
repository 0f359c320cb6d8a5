use Rattle.bus_policy.proofs.Standing.{levels_stay as stay}
use Rattle.bus_policy.proofs.laws.levels_stay.Goals as goal

pub returns : goal.returns
returns c = stay
