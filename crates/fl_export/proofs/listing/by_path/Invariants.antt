use Rattle.std.proofs.Common.{length}
use Rattle.fl_export.proofs.InOrder.{IsPartly}
use Rattle.fl_export.proofs.listing.by_path.Given as goal

abbrev pub invariant-loop-row : goal.invariant-loop-row
invariant-loop-row l = IsPartly l.fn.rows.items l.rows.items l.keyed.entries

abbrev pub decreases-loop-row : goal.decreases-loop-row
decreases-loop-row l = length l.rows.items
