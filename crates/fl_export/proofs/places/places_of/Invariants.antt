use Rattle.std.proofs.Common.{◌≡◌, take}
use Rattle.fl_export.specs.Placed.{places_of}
use Rattle.fl_export.proofs.places.places_of.Given as goal

abbrev pub invariant-loop-row : goal.invariant-loop-row
invariant-loop-row l = l.places.items ≡ places_of (take l.row-index l.rows)
