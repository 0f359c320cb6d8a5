use Rattle.dep_states.proofs.Small.{shows_settings, sound_settings}
use Rattle.dep_states.proofs.laws.settings_may_change.Goals as goal

pub returns-clause-shown : goal.returns-clause-shown
returns-clause-shown c = λ i j s t still now refs overrides shown. shows_settings still now refs overrides shown

pub returns-clause-sound : goal.returns-clause-sound
returns-clause-sound c = λ i j still elsewhere sound. sound_settings still elsewhere sound
