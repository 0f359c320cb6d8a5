use Rattle.std.proofs.Common.{◌≡◌, false, take}
use Rattle.fl_meta.specs.Separators.{escapes_after}
use Rattle.fl_meta.proofs.separators.ends_escaped.Given as goal

abbrev pub invariant-loop-byte : goal.invariant-loop-byte
invariant-loop-byte l = l.escaped ≡ escapes_after false (take l.byte-index l.byte-items)
