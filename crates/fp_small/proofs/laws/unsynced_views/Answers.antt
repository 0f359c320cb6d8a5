use Rattle.fp_host.specs.Paths.{dir}
use Rattle.fp_small.proofs.Unsynced.{put_none}
use Rattle.fp_small.proofs.Bare.{created_one, settled_before}
use Rattle.fp_small.proofs.laws.unsynced_views.Goals as goal

pub returns-clause-folder : goal.returns-clause-folder
returns-clause-folder c = λ v p. put_none p dir v

pub returns-clause-file : goal.returns-clause-file
returns-clause-file c = created_one

pub returns-clause-settled : goal.returns-clause-settled
returns-clause-settled c = λ u w. settled_before
