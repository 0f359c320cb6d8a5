use Rattle.ost_pull.proofs.Pulled.{pulls_store, pulls_names}
use Rattle.ost_pull.proofs.laws.pulls_keep_stores.Goals as goal

pub returns-clause-store : goal.returns-clause-store
returns-clause-store c = pulls_store

pub returns-clause-names : goal.returns-clause-names
returns-clause-names c = pulls_names
