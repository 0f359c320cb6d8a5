use Rattle.fl_make.proofs.OneCommit.{rows_have_one_commit, descriptions_have_one_commit}
use Rattle.fl_make.proofs.laws.a_description_has_one_commit.Goals as goal

pub returns-clause-rows : goal.returns-clause-rows
returns-clause-rows c = rows_have_one_commit

pub returns-clause-described : goal.returns-clause-described
returns-clause-described c = descriptions_have_one_commit
