use Rattle.fp_small.specs.Config.{config_text}
use Rattle.dep_states.proofs.Images.{no_sound, config_sound, config_shows}
use Rattle.dep_states.proofs.laws.sound_images.Goals as goal

pub returns-clause-nothing : goal.returns-clause-nothing
returns-clause-nothing c = no_sound

pub returns-clause-written : goal.returns-clause-written
returns-clause-written c = λ s good short. (config_sound (config_text s), config_shows s good short)
