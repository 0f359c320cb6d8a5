use Rattle.std.proofs.Common.{◌≡◌, take}
use Rattle.dep_tidy.specs.Kept.{kept_of}
use Rattle.dep_tidy.proofs.rows.kept_of.Given as goal

abbrev pub invariant-loop-row : goal.invariant-loop-row
invariant-loop-row l = l.kept.items ≡ kept_of (take l.row-index l.rows)
