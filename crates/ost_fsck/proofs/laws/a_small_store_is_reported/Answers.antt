use Rattle.ost_fsck.proofs.Samples.{small_reported}
use Rattle.ost_fsck.proofs.laws.a_small_store_is_reported.Goals as goal

pub returns : goal.returns
returns c = small_reported
