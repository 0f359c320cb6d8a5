use Rattle.dep_states.proofs.Deployed.{deployed_shows, deployed_sound}
use Rattle.dep_states.proofs.SettledSample.{deployed_settled}
use Rattle.dep_states.proofs.laws.the_deployed_image_is_sound.Goals as goal

pub returns-clause-shown : goal.returns-clause-shown
returns-clause-shown c = deployed_shows

pub returns-clause-sound : goal.returns-clause-sound
returns-clause-sound c = deployed_sound

pub returns-clause-settled : goal.returns-clause-settled
returns-clause-settled c = deployed_settled
