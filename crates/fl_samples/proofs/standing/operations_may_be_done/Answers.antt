use Rattle.fl_samples.proofs.Operations.{whole_good, may_go_back, may_go_on, may_go_away, goes_back, goes_on, goes_away}
use Rattle.fl_samples.proofs.standing.operations_may_be_done.Goals as goal

pub returns-clause-good : goal.returns-clause-good
returns-clause-good c = whole_good

pub returns-clause-back : goal.returns-clause-back
returns-clause-back c = may_go_back

pub returns-clause-onward : goal.returns-clause-onward
returns-clause-onward c = may_go_on

pub returns-clause-away : goal.returns-clause-away
returns-clause-away c = may_go_away

pub returns-clause-after_back : goal.returns-clause-after_back
returns-clause-after_back c = goes_back

pub returns-clause-after_onward : goal.returns-clause-after_onward
returns-clause-after_onward c = goes_on

pub returns-clause-after_away : goal.returns-clause-after_away
returns-clause-after_away c = goes_away
