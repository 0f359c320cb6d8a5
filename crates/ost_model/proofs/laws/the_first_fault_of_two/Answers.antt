use Rattle.ost_model.proofs.Pending.{first_append}
use Rattle.ost_model.proofs.laws.the_first_fault_of_two.Goals as goal

pub returns : goal.returns
returns c = first_append
