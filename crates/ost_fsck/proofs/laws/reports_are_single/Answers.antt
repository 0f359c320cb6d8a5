use Rattle.ost_fsck.proofs.Single.{one_report}
use Rattle.ost_fsck.proofs.laws.reports_are_single.Goals as goal

pub returns : goal.returns
returns c = one_report
