use Rattle.ost_pull.proofs.Trusted.{names_trusted, pulls_where}
use Rattle.ost_pull.proofs.pulling.pull_trusting.Goals as goal

pub returns : goal.returns
returns g c = pulls_where (λ true_files. names_trusted true_files) c.pull_by.ensures
