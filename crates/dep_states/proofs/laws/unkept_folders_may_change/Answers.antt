use Rattle.dep_states.proofs.Sparing.{dir_spares}
use Rattle.dep_states.proofs.laws.unkept_folders_may_change.Goals as goal

pub returns : goal.returns
returns c = λ s v name commit digest opens off. dir_spares digest opens off
