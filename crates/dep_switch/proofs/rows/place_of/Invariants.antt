use Rattle.std.proofs.Common.{◌≡◌, ◌++◌, take, drop}
use Rattle.fp_small.specs.Order.{inserted}
use Rattle.dep_switch.proofs.rows.place_of.Given as goal

abbrev pub invariant-loop-place : goal.invariant-loop-place
invariant-loop-place g l = (row : g.row.T.Denot) → g.T.Named.name_of row ≡ l.name → inserted g.T.Named.name_of l.rows row ≡ take l.place l.rows ++ inserted g.T.Named.name_of (drop l.place l.rows) row
