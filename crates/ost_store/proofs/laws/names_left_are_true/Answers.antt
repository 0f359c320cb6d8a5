use Rattle.ost_store.proofs.Stored.{left_name, left_store}
use Rattle.ost_store.proofs.laws.names_left_are_true.Goals as goal

pub returns-clause-name : goal.returns-clause-name
returns-clause-name c = left_name

pub returns-clause-store : goal.returns-clause-store
returns-clause-store c = left_store
