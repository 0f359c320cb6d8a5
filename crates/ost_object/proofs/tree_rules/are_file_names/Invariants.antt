use Rattle.std.proofs.Common.{◌≡◌, drop}
use Rattle.std.specs.List.{list_all}
use Rattle.fp_host.specs.Paths.{is_element}
use Rattle.ost_object.specs.Views.{names_of_files}
use Rattle.ost_object.proofs.tree_rules.are_file_names.Given as goal

abbrev pub invariant-loop-file : goal.invariant-loop-file
invariant-loop-file l = list_all is_element (names_of_files (drop l.file-index l.files)) ≡ list_all is_element (names_of_files l.files)
