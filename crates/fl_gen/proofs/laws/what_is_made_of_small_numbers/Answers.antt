use Rattle.std.proofs.Common.{refl}
use Rattle.std.specs.Fmt.{digits}
use Rattle.fl_gen.specs.Made.{each_of}
use Rattle.fl_gen.proofs.laws.what_is_made_of_small_numbers.Goals as goal

pub returns-clause-refs : goal.returns-clause-refs
unfolding each_of digits
returns-clause-refs c = refl

pub returns-clause-apps : goal.returns-clause-apps
unfolding each_of digits
returns-clause-apps c = refl

pub returns-clause-runtime : goal.returns-clause-runtime
unfolding each_of digits
returns-clause-runtime c = refl

pub returns-clause-application : goal.returns-clause-application
unfolding each_of digits
returns-clause-application c = refl

pub returns-clause-rows : goal.returns-clause-rows
unfolding each_of digits
returns-clause-rows c = refl

pub returns-clause-more_rows : goal.returns-clause-more_rows
unfolding each_of digits
returns-clause-more_rows c = refl

pub returns-clause-changed : goal.returns-clause-changed
unfolding each_of digits
returns-clause-changed c = refl

pub returns-clause-kept : goal.returns-clause-kept
returns-clause-kept c = refl
