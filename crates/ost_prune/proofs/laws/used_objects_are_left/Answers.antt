use Rattle.ost_prune.proofs.Pruned.{left_exactly}
use Rattle.ost_prune.proofs.laws.used_objects_are_left.Goals as goal

pub returns : goal.returns
returns c root keep number object u w tree tree' good pruned was = left_exactly object good pruned tree tree' was
