use Rattle.fp_memhost.proofs.Stops.{sync_left}
use Rattle.fp_memhost.proofs.laws.a_sync_keeps_what_stands.Goals as goal

pub returns : goal.returns
returns c = sync_left
