use Rattle.std.proofs.Common.{◌≡◌, ◌++◌, drop, map}
use Rattle.std.specs.List.{list_all}
use Rattle.gv_value.specs.Views.{plain}
use Rattle.ost_model.specs.Readers.{has_both_long}
use Rattle.ost_object.specs.Values.{dir_value}
use Rattle.ost_object.specs.Views.{dir_row}
use Rattle.ost_object.proofs.row_values.dirs_as_values.Given as goal

abbrev pub invariant-loop-dir : goal.invariant-loop-dir
invariant-loop-dir l = (map plain l.values.items ++ map dir_value (map dir_row (drop l.dir-index l.dirs)) ≡ map dir_value (map dir_row l.dirs))
    × (list_all has_both_long (map dir_row (drop l.dir-index l.dirs)) ≡ list_all has_both_long (map dir_row l.dirs))
