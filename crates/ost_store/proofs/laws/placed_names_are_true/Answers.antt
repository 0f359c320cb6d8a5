use Rattle.ost_store.proofs.Stored.{placed_name, placed_store}
use Rattle.ost_store.proofs.laws.placed_names_are_true.Goals as goal

pub returns-clause-name : goal.returns-clause-name
returns-clause-name c = placed_name

pub returns-clause-store : goal.returns-clause-store
returns-clause-store c = placed_store
