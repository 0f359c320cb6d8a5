use Rattle.bus_policy.proofs.Replies.{names_filtered}
use Rattle.bus_policy.proofs.laws.names_stay_filtered.Goals as goal

pub returns : goal.returns
returns c = names_filtered
