use Rattle.dep_states.proofs.Empty.{empty_shows, empty_sound, empty_settled}
use Rattle.dep_states.proofs.laws.the_empty_image_is_sound.Goals as goal

pub returns-clause-shown : goal.returns-clause-shown
returns-clause-shown c = empty_shows

pub returns-clause-sound : goal.returns-clause-sound
returns-clause-sound c = empty_sound

pub returns-clause-settled : goal.returns-clause-settled
returns-clause-settled c = empty_settled
