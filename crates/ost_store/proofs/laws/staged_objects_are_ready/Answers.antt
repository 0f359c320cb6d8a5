use Rattle.ost_store.proofs.Ready.{staged_ready}
use Rattle.ost_store.proofs.Staying.{staged_held}
use Rattle.ost_store.proofs.laws.staged_objects_are_ready.Goals as goal

pub returns-clause-ready : goal.returns-clause-ready
returns-clause-ready c = staged_ready

pub returns-clause-held : goal.returns-clause-held
returns-clause-held c = staged_held
