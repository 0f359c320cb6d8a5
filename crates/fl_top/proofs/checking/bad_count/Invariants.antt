use Rattle.std.proofs.Common.{◌≡◌, ◌≤◌, take}
use Rattle.std.specs.Prelude.{count_by}
use Rattle.fl_top.specs.Fsck.{is_bad}
use Rattle.fl_top.proofs.checking.bad_count.Given as goal

abbrev pub invariant-loop-finding : goal.invariant-loop-finding
invariant-loop-finding l = record { count : l.count ≡ count_by is_bad (take l.finding-index l.findings); few : l.count ≤ l.finding-index }
