use Rattle.fl_samples.proofs.WholeSettled.{whole_settled}
use Rattle.fl_samples.proofs.WholeShown.{whole_shows, whole_sound}
use Rattle.fl_samples.proofs.standing.a_whole_image_is_sound.Goals as goal

pub returns-clause-shown : goal.returns-clause-shown
returns-clause-shown c = whole_shows

pub returns-clause-sound : goal.returns-clause-sound
returns-clause-sound c = whole_sound

pub returns-clause-settled : goal.returns-clause-settled
returns-clause-settled c = whole_settled
