use Rattle.fl_plan.proofs.WorkedOut.{installs, updates, refuses_older, stays}
use Rattle.fl_plan.proofs.laws.plans_can_be_made.Goals as goal

pub returns-clause-installs : goal.returns-clause-installs
returns-clause-installs c = installs

pub returns-clause-updates : goal.returns-clause-updates
returns-clause-updates c = updates

pub returns-clause-older : goal.returns-clause-older
returns-clause-older c = refuses_older

pub returns-clause-stays : goal.returns-clause-stays
returns-clause-stays c = stays
