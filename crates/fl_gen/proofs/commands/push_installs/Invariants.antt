use Rattle.std.proofs.Common.{◌≡◌, ◌++◌}
use Rattle.fl_gen.specs.Made.{each_of}
use Rattle.fl_gen.specs.Exercise.{install_of}
use Rattle.fl_gen.proofs.commands.push_installs.Given as goal

abbrev pub invariant-loop-number : goal.invariant-loop-number
invariant-loop-number l = l.changes ≡ l.fn.changes ++ each_of install_of l.number
