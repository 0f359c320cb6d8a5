use Rattle.dep_states.proofs.Small.{shows_layer, sound_layer}
use Rattle.dep_states.proofs.laws.an_override_may_change.Goals as goal

pub returns-clause-shown : goal.returns-clause-shown
returns-clause-shown c = λ i j s t layer still with_ now shown. shows_layer layer still with_ now shown

pub returns-clause-sound : goal.returns-clause-sound
returns-clause-sound c = λ i j layer still elsewhere sound. sound_layer layer still elsewhere sound
