use Rattle.std.proofs.Common.{take, Contains}
use Rattle.fl_export.proofs.sweeping.has_path.Given as goal

abbrev pub invariant-loop-other : goal.invariant-loop-other
invariant-loop-other l = Contains (take l.other-index l.paths) l.path → ⊥
