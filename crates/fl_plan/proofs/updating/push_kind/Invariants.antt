use Rattle.std.proofs.Common.{◌≡◌, ◌++◌, drop}
use Rattle.fl_plan.specs.Targets.{names_in}
use Rattle.fl_plan.proofs.updating.push_kind.Given as goal

abbrev pub invariant-loop-row : goal.invariant-loop-row
invariant-loop-row l = l.out ++ names_in l.kind (drop l.row-index l.rows) ≡ l.fn.out ++ names_in l.kind l.rows
