use Rattle.std.proofs.Common.{◌≡◌}
use Rattle.fl_gen.specs.Made.{counted_bytes}
use Rattle.fl_gen.proofs.series.counted.Given as goal

abbrev pub invariant-loop-at : goal.invariant-loop-at
invariant-loop-at l = l.bytes.items ≡ counted_bytes l.start l.at
