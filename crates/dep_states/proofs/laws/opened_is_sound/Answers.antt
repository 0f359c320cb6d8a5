use Rattle.dep_states.proofs.Usual.{opens_sound}
use Rattle.dep_states.proofs.laws.opened_is_sound.Goals as goal

pub returns : goal.returns
returns c = λ s v opens. opens_sound opens
