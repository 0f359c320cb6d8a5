use Rattle.ost_model.proofs.Stores.{one_name}
use Rattle.ost_model.proofs.laws.names_are_apart.Goals as goal

pub returns : goal.returns
returns c = one_name
