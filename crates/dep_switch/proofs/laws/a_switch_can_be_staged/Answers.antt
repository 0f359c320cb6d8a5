use Rattle.dep_switch.proofs.Sample.{undeployed_shows, undeployed_sound, can_stage}
use Rattle.dep_switch.proofs.laws.a_switch_can_be_staged.Goals as goal

pub returns-clause-shown : goal.returns-clause-shown
returns-clause-shown c = undeployed_shows

pub returns-clause-sound : goal.returns-clause-sound
returns-clause-sound c = undeployed_sound

pub returns-clause-stages : goal.returns-clause-stages
returns-clause-stages c = λ v tree settled same. can_stage v tree settled same
