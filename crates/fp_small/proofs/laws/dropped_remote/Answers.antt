use Rattle.fp_small.proofs.Remoting.{dropped}
use Rattle.fp_small.proofs.laws.dropped_remote.Goals as goal

pub returns : goal.returns
returns c = dropped
