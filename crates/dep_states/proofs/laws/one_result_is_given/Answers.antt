use Rattle.dep_states.proofs.Single.{one_result}
use Rattle.dep_states.proofs.laws.one_result_is_given.Goals as goal

pub returns : goal.returns
returns c = one_result
