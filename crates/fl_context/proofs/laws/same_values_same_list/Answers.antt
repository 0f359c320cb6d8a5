use Rattle.fl_context.proofs.Merging.{same_list}
use Rattle.fl_context.proofs.laws.same_values_same_list.Goals as goal

pub returns : goal.returns
returns c = same_list
