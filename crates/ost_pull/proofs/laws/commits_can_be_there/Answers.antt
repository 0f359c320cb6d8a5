use Rattle.ost_pull.proofs.Samples.{there_pulled}
use Rattle.ost_pull.proofs.laws.commits_can_be_there.Goals as goal

pub returns : goal.returns
returns c root commit v tree settled clean = there_pulled root commit v tree settled clean
