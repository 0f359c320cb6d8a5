use Rattle.dep_states.proofs.Law.{frame_law, frame_sound, spares_spared}
use Rattle.dep_states.proofs.Usual.{keeps_config}
use Rattle.dep_states.proofs.laws.steps_that_spare.Goals as goal

pub returns-clause-opens : goal.returns-clause-opens
returns-clause-opens c = λ old new s follows opens. frame_law (spares_spared old) follows opens

pub returns-clause-sound : goal.returns-clause-sound
returns-clause-sound c = λ old new follows sound. frame_sound (spares_spared old) follows sound

pub returns-clause-config : goal.returns-clause-config
returns-clause-config c = λ old new follows has. keeps_config (spares_spared old) follows has
