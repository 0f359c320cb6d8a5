use Rattle.std.proofs.Common.{◌≡◌, ◌-◌, drop}
use Rattle.fp_host.specs.Reads.{is_ascending}
use Rattle.fp_system.proofs.names.are_ascending.Given as goal

-- the names so far ascend
abbrev pub invariant-loop-i : goal.invariant-loop-i
invariant-loop-i l = is_ascending l.names ≡ is_ascending (drop (l.i - 1) l.names)
