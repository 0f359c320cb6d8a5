use Rattle.ost_model.proofs.Sample.{meta, meta_bytes}
use Rattle.ost_store.proofs.Samples.{empty_store, store_leaves_object, meta_ready}
use Rattle.ost_store.proofs.laws.views_can_have_stores.Goals as goal

pub returns-clause-empty : goal.returns-clause-empty
returns-clause-empty c = empty_store

pub returns-clause-object : goal.returns-clause-object
returns-clause-object c = store_leaves_object

pub returns-clause-ready : goal.returns-clause-ready
returns-clause-ready c = (meta, meta_bytes, meta_ready)
