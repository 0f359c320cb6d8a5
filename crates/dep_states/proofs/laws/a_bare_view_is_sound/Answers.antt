use Rattle.dep_states.proofs.Images.{root_alone}
use Rattle.dep_states.proofs.laws.a_bare_view_is_sound.Goals as goal

pub returns : goal.returns
returns c = root_alone
