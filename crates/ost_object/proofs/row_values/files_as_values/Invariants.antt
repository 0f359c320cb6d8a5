use Rattle.std.proofs.Common.{◌≡◌, ◌++◌, drop, map}
use Rattle.std.specs.List.{list_all}
use Rattle.gv_value.specs.Views.{plain}
use Rattle.ost_model.specs.Readers.{has_long}
use Rattle.ost_object.specs.Values.{file_value}
use Rattle.ost_object.specs.Views.{file_row}
use Rattle.ost_object.proofs.row_values.files_as_values.Given as goal

abbrev pub invariant-loop-file : goal.invariant-loop-file
invariant-loop-file l = (map plain l.values.items ++ map file_value (map file_row (drop l.file-index l.files)) ≡ map file_value (map file_row l.files))
    × (list_all has_long (map file_row (drop l.file-index l.files)) ≡ list_all has_long (map file_row l.files))
