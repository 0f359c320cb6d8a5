use Rattle.std.proofs.Common.{take, Contains}
use Rattle.fp_small.proofs.ordering.has_pin.Given as goal

abbrev pub invariant-loop-other : goal.invariant-loop-other
invariant-loop-other l = Contains (take l.other-index l.pins) l.pin → ⊥
