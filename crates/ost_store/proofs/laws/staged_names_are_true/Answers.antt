use Rattle.ost_store.proofs.Stored.{staged_name, staged_store, piece_store}
use Rattle.ost_store.proofs.laws.staged_names_are_true.Goals as goal

pub returns-clause-name : goal.returns-clause-name
returns-clause-name c = λ root t object d kind u w stages off. staged_name root t object stages off d kind

pub returns-clause-store : goal.returns-clause-store
returns-clause-store c = λ root t object u w stages off. staged_store root t object stages off

pub returns-clause-piece : goal.returns-clause-piece
returns-clause-piece c = λ root t u w keeps. piece_store root t keeps
