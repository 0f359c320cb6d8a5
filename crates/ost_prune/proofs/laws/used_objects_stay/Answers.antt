use Rattle.ost_prune.proofs.Pruned.{used_name, used_stop}
use Rattle.ost_prune.proofs.laws.used_objects_stay.Goals as goal

pub returns-clause-name : goal.returns-clause-name
returns-clause-name c root keep object u w good pruned used = used_name object good pruned used

pub returns-clause-stop : goal.returns-clause-stop
returns-clause-stop c root keep object u w good pruned used = λ disk left. used_stop object good pruned used disk left
