use Rattle.fl_meta.proofs.Normal.{place_in-twice}
use Rattle.fl_meta.proofs.laws.a_place_names_itself.Goals as goal

pub returns : goal.returns
returns c = place_in-twice
