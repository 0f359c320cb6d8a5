use Rattle.std.proofs.Common.{◌≡◌, ◌-◌, ◌≤◌, drop}
use Rattle.fp_host.specs.Reads.{is_ascending}
use Rattle.ost_object.specs.Views.{names_of_dirs}
use Rattle.ost_object.proofs.tree_rules.dirs_ascend.Given as goal

abbrev pub invariant-loop-i : goal.invariant-loop-i
invariant-loop-i l = record {
  begun : 1 ≤ l.i;
  same : is_ascending (names_of_dirs (drop (l.i - 1) l.dirs)) ≡ is_ascending (names_of_dirs l.dirs);
}
