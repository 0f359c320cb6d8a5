use Rattle.std.proofs.Common.{◌≡◌, ◌++◌}
use Rattle.fl_gen.specs.Made.{each_of}
use Rattle.fl_gen.specs.Exercise.{uninstall_of}
use Rattle.fl_gen.proofs.commands.push_uninstalls.Given as goal

abbrev pub invariant-loop-half : goal.invariant-loop-half
invariant-loop-half l = l.changes ≡ l.fn.changes ++ each_of uninstall_of l.half
