use Rattle.ost_pull.proofs.Trusted.{none_trusted, pulls_where}
use Rattle.ost_pull.proofs.pulling.pull_gated.Goals as goal

pub returns : goal.returns
returns g c = pulls_where (λ any. none_trusted) c.pull_by.ensures
