use Rattle.std.proofs.Common.{◌≡◌, ◌++◌, length}
use Rattle.std.specs.Map.{values_of}
use Rattle.fp_small.proofs.walking.values_in_order.Given as goal

abbrev pub invariant-loop-item : goal.invariant-loop-item
invariant-loop-item g l = l.items.items ++ values_of l.keyed.entries ≡ values_of l.fn.keyed.entries

abbrev pub decreases-loop-item : goal.decreases-loop-item
decreases-loop-item g l = length l.keyed.entries
