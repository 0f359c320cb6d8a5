use Rattle.bus_proxy.proofs.Unseen.{unseen_nothing}
use Rattle.bus_proxy.proofs.laws.unseen_names_change_nothing.Goals as goal

pub returns : goal.returns
returns c = unseen_nothing
