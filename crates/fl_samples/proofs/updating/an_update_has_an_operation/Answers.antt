use Rattle.fl_samples.proofs.Answered.{answered, counts}
use Rattle.fl_samples.proofs.updating.an_update_has_an_operation.Goals as goal

pub returns-clause-answered : goal.returns-clause-answered
returns-clause-answered c = answered

pub returns-clause-counts : goal.returns-clause-counts
returns-clause-counts c = counts
