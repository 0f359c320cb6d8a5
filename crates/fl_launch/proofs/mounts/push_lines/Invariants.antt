use Rattle.std.proofs.Common.{◌≡◌, ◌++◌, string_bytes}
use Rattle.std.specs.List.{flat_map}
use Rattle.fl_launch.specs.Launch.{closed_line}
use Rattle.fl_launch.proofs.mounts.push_lines.Given as goal

-- the lines so far, and those that are left
abbrev pub invariant-loop-line : goal.invariant-loop-line
invariant-loop-line l = string_bytes l.out ++ flat_map closed_line l.line-iterator ≡ string_bytes l.initial.out ++ flat_map closed_line l.lines.keys
