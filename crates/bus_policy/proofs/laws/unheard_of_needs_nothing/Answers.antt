use Rattle.bus_policy.proofs.Standing.{unheard_of, later_tell}
use Rattle.bus_policy.proofs.laws.unheard_of_needs_nothing.Goals as goal

pub returns-clause-answers : goal.returns-clause-answers
returns-clause-answers c = unheard_of

pub returns-clause-later : goal.returns-clause-later
returns-clause-later c = later_tell
