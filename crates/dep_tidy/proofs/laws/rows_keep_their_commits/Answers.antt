use Rattle.dep_tidy.proofs.RowsKept.{kept_both}
use Rattle.dep_tidy.proofs.laws.rows_keep_their_commits.Goals as goal

pub returns : goal.returns
returns c = kept_both
