use Rattle.ost_model.proofs.Stores.{store_same, store_goes_on, nothing_is_a_store}
use Rattle.ost_model.proofs.laws.stores_depend_on_their_names.Goals as goal

pub returns-clause-same : goal.returns-clause-same
returns-clause-same c = store_same

pub returns-clause-goes_on : goal.returns-clause-goes_on
returns-clause-goes_on c = store_goes_on

pub returns-clause-nothing : goal.returns-clause-nothing
returns-clause-nothing c = nothing_is_a_store
