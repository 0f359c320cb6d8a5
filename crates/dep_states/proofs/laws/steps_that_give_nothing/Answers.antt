use Rattle.dep_states.proofs.Law.{frame_law, frame_sound, spares_nothing}
use Rattle.dep_states.proofs.laws.steps_that_give_nothing.Goals as goal

pub returns-clause-opens : goal.returns-clause-opens
returns-clause-opens c = λ old new s follows opens. frame_law (spares_nothing old) follows opens

pub returns-clause-sound : goal.returns-clause-sound
returns-clause-sound c = λ old new follows sound. frame_sound (spares_nothing old) follows sound
