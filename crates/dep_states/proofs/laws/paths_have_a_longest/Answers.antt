use Rattle.dep_states.proofs.Images.{longest, too_long}
use Rattle.dep_states.proofs.laws.paths_have_a_longest.Goals as goal

pub returns-clause-longest : goal.returns-clause-longest
returns-clause-longest c = longest

pub returns-clause-too_long : goal.returns-clause-too_long
returns-clause-too_long c = too_long
