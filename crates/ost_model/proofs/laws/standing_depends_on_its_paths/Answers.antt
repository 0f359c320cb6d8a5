use Rattle.ost_model.proofs.Local.{stands_same}
use Rattle.ost_model.proofs.laws.standing_depends_on_its_paths.Goals as goal

pub returns : goal.returns
returns c = λ reads root i j commit dir. stands_same root i j commit reads dir
