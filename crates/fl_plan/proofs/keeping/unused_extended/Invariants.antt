use Rattle.std.proofs.Common.{◌≡◌, ◌++◌, drop}
use Rattle.std.specs.Prelude.{filter}
use Rattle.fl_plan.specs.Targets.{names_of}
use Rattle.fl_plan.specs.Unused.{is_unused}
use Rattle.fl_plan.proofs.keeping.unused_extended.Given as goal

abbrev pub invariant-loop-row : goal.invariant-loop-row
invariant-loop-row l = l.names ++ filter (is_unused l.state l.metas l.points) (names_of (drop l.row-index l.state.refs)) ≡ filter (is_unused l.state l.metas l.points) (names_of l.state.refs)
