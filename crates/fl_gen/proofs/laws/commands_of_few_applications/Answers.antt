use Rattle.std.proofs.Common.{refl}
use Rattle.fl_gen.specs.Made.{each_of}
use Rattle.fl_gen.proofs.laws.commands_of_few_applications.Goals as goal

pub returns-clause-one : goal.returns-clause-one
unfolding each_of
returns-clause-one c = refl

pub returns-clause-four : goal.returns-clause-four
unfolding each_of
returns-clause-four c = refl
