use Rattle.std.proofs.Common.{◌≡◌, ◌++◌}
use Rattle.fl_options.proofs.options.push_option.Given as goal

abbrev pub invariant-loop-mention : goal.invariant-loop-mention
invariant-loop-mention l = l.layer ≡ l.fn.layer ++ l.yielded
