use Rattle.dep_states.proofs.Sparing.{settled_opens}
use Rattle.dep_states.proofs.laws.what_is_settled_is_opened.Goals as goal

pub returns : goal.returns
returns c = λ s v tree settled shown sound. settled_opens tree settled shown sound
