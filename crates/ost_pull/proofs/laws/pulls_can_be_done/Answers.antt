use Rattle.ost_pull.proofs.Samples.{work_apart, bare_pulls}
use Rattle.ost_pull.proofs.laws.pulls_can_be_done.Goals as goal

pub returns-clause-apart : goal.returns-clause-apart
returns-clause-apart c name = work_apart name

pub returns-clause-bare : goal.returns-clause-bare
returns-clause-bare c name v bare tree settled = bare_pulls name v bare tree settled
