use Rattle.ost_model.proofs.Places.{order_same, first_same}
use Rattle.ost_model.proofs.Looked.{look_same}
use Rattle.ost_model.proofs.laws.orders_depend_on_their_objects.Goals as goal

pub returns-clause-order : goal.returns-clause-order
returns-clause-order c = order_same

pub returns-clause-fault : goal.returns-clause-fault
returns-clause-fault c = first_same

pub returns-clause-look : goal.returns-clause-look
returns-clause-look c = look_same
