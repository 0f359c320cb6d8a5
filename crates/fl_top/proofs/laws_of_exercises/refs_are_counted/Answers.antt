use Rattle.std.proofs.Common.{refl}
use Rattle.std.specs.Fmt.{digits}
use Rattle.fl_top.proofs.laws_of_exercises.refs_are_counted.Goals as goal

pub returns : goal.returns
unfolding digits
returns c = refl
