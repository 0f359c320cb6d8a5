use Rattle.fl_meta.proofs.Normal.{HasNoEnding-place_in}
use Rattle.fl_meta.proofs.Tidy.{tidy_place}
use Rattle.fl_meta.proofs.laws.a_place_is_normal.Goals as goal

pub returns-clause-tidy : goal.returns-clause-tidy
returns-clause-tidy c = tidy_place

pub returns-clause-no_ending : goal.returns-clause-no_ending
returns-clause-no_ending c = HasNoEnding-place_in
