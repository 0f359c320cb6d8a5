use Rattle.dep_states.proofs.Usual.{tmp_spares}
use Rattle.dep_states.proofs.laws.work_may_come_and_go.Goals as goal

pub returns : goal.returns
returns c = λ v. tmp_spares
