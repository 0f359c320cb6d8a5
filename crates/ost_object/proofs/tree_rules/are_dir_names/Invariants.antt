use Rattle.std.proofs.Common.{◌≡◌, drop}
use Rattle.std.specs.List.{list_all}
use Rattle.fp_host.specs.Paths.{is_element}
use Rattle.ost_object.specs.Views.{names_of_dirs}
use Rattle.ost_object.proofs.tree_rules.are_dir_names.Given as goal

abbrev pub invariant-loop-dir : goal.invariant-loop-dir
invariant-loop-dir l = list_all is_element (names_of_dirs (drop l.dir-index l.dirs)) ≡ list_all is_element (names_of_dirs l.dirs)
