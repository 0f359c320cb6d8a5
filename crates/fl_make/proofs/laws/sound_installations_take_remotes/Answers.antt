use Rattle.fl_make.proofs.Free.{can_make}
use Rattle.fl_make.proofs.laws.sound_installations_take_remotes.Goals as goal

pub returns : goal.returns
returns c = λ v remote r tree sound good. can_make v remote r tree sound good
