use Rattle.fl_samples.proofs.Lists.{rises, sent}
use Rattle.fl_samples.proofs.filtering.serials_may_rise.Goals as goal

pub returns-clause-rises : goal.returns-clause-rises
returns-clause-rises c = rises

pub returns-clause-sent : goal.returns-clause-sent
returns-clause-sent c = sent
