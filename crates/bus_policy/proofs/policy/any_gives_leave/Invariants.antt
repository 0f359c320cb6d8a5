use Rattle.std.proofs.Common.{◌≡◌, drop}
use Rattle.bus_policy.specs.Watching.{any_leave}
use Rattle.bus_policy.proofs.policy.any_gives_leave.Given as goal

abbrev pub invariant-loop-i : goal.invariant-loop-i
invariant-loop-i l = any_leave l.kind l.peer l.header (drop l.i l.rules) (drop l.i l.flags) ≡ any_leave l.kind l.peer l.header l.rules l.flags
