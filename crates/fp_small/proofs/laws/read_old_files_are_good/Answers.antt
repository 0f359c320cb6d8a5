use Rattle.fp_small.proofs.OldReads.{remotes_good, pins_good}
use Rattle.fp_small.proofs.laws.read_old_files_are_good.Goals as goal

pub returns-clause-remotes : goal.returns-clause-remotes
returns-clause-remotes c = remotes_good

pub returns-clause-pins : goal.returns-clause-pins
returns-clause-pins c = pins_good
