use Rattle.fp_small.proofs.Remoting.{modified}
use Rattle.fp_small.proofs.laws.modified_remote.Goals as goal

pub returns : goal.returns
returns c = modified
