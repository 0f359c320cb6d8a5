use Rattle.std.proofs.Common.{◌≡◌, take}
use Rattle.fl_launch.specs.Extensions.{mounts_of, with_lines}
use Rattle.fl_launch.proofs.mounts.add_mounts.Given as goal

abbrev pub invariant-loop-point : goal.invariant-loop-point
invariant-loop-point l = l.lines.keys ≡ with_lines l.initial.lines.keys (mounts_of l.front l.state (take l.point-index l.points))
