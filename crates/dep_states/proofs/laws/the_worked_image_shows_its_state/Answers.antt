use Rattle.dep_states.proofs.Worked.{worked_shows}
use Rattle.dep_states.proofs.laws.the_worked_image_shows_its_state.Goals as goal

pub returns : goal.returns
returns c = worked_shows
