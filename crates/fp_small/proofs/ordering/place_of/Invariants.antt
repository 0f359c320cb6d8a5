use Rattle.std.proofs.Common.{◌≡◌, ◌++◌, take, drop}
use Rattle.fp_small.specs.Order.{inserted}
use Rattle.fp_small.proofs.ordering.place_of.Given as goal

abbrev pub invariant-loop-place : goal.invariant-loop-place
invariant-loop-place g l = (item : g.row.T.Denot) → g.T.Named.name_of item ≡ l.name → inserted g.T.Named.name_of l.items item ≡ take l.place l.items ++ inserted g.T.Named.name_of (drop l.place l.items) item
