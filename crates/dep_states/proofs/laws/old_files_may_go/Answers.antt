use Rattle.dep_states.proofs.Usual.{old_go}
use Rattle.dep_states.proofs.laws.old_files_may_go.Goals as goal

pub returns : goal.returns
returns c = old_go
