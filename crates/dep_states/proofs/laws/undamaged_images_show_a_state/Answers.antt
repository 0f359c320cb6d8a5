use Rattle.dep_states.proofs.Total.{state_there}
use Rattle.dep_states.proofs.laws.undamaged_images_show_a_state.Goals as goal

pub returns : goal.returns
returns c = state_there
