use Rattle.bus_proxy.proofs.Unseen.{left_seen}
use Rattle.bus_proxy.proofs.laws.names_left_may_be_seen.Goals as goal

pub returns : goal.returns
returns c = left_seen
