use Rattle.std.proofs.Common.{◌≡◌, ◌≤◌, take}
use Rattle.std.specs.Prelude.{count_by}
use Rattle.fl_top.specs.Exercising.{is_of}
use Rattle.fl_top.proofs.trials.count_of.Given as goal

abbrev pub invariant-loop-row : goal.invariant-loop-row
invariant-loop-row l = record { count : l.count ≡ count_by (is_of l.kind) (take l.row-index l.rows); few : l.count ≤ l.row-index }
