use Rattle.bus_policy.proofs.Standing.{hidden_untold, bad_untold}
use Rattle.bus_policy.proofs.laws.hidden_owners_are_untold.Goals as goal

pub returns-clause-hidden : goal.returns-clause-hidden
returns-clause-hidden c = hidden_untold

pub returns-clause-bad : goal.returns-clause-bad
returns-clause-bad c = bad_untold
