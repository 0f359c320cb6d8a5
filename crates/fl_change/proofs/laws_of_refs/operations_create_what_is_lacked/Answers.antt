use Rattle.std.proofs.Common.{refl}
use Rattle.ost_store.proofs.Creating.{creates_refl}
use Rattle.fl_change.proofs.Created.{one_created, none_put}
use Rattle.fl_change.proofs.laws_of_refs.operations_create_what_is_lacked.Goals as goal

pub returns-clause-none : goal.returns-clause-none
returns-clause-none c held x v = creates_refl

pub returns-clause-alone : goal.returns-clause-alone
returns-clause-alone c held x d u w kept made = one_created held x d.op d refl kept made

pub returns-clause-nothing_else : goal.returns-clause-nothing_else
returns-clause-nothing_else c held x u w q id made below none put = none_put made q id below none put

pub returns-clause-in_order : goal.returns-clause-in_order
returns-clause-in_order c held x d more u w made = made
