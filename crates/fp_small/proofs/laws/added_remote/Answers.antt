use Rattle.fp_small.proofs.Remoting.{added}
use Rattle.fp_small.proofs.laws.added_remote.Goals as goal

pub returns : goal.returns
returns c = added
