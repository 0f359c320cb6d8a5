use Rattle.std.proofs.Common.{◌≡◌, ◌-◌, ◌+◌, ◌≤◌, length, drop}
use Rattle.ost_model.specs.Readers.{shares}
use Rattle.ost_object.specs.Views.{names_of_files, names_of_dirs}
use Rattle.ost_object.proofs.tree_rules.share_a_name.Given as goal

abbrev pub decreases-loop-i : goal.decreases-loop-i
decreases-loop-i l = (length l.files - l.i) + (length l.dirs - l.j)

abbrev pub invariant-loop-i : goal.invariant-loop-i
invariant-loop-i l = record {
  files : l.i ≤ length l.files;
  dirs : l.j ≤ length l.dirs;
  same : shares (names_of_files (drop l.i l.files)) (names_of_dirs (drop l.j l.dirs)) ≡ shares (names_of_files l.files) (names_of_dirs l.dirs);
}
