use Rattle.std.proofs.Common.{◌≡◌, ◌++◌, map, take}
use Rattle.ost_object.specs.Views.{dir_row}
use Rattle.ost_checkout.specs.Rows.{row_of_dir}
use Rattle.ost_checkout.proofs.rows.add_dirs.Given as goal

abbrev pub invariant-loop-dir : goal.invariant-loop-dir
invariant-loop-dir l = l.rows.items ≡ l.fn.rows.items ++ map (row_of_dir l.folder) (map dir_row (take l.dir-index l.dirs))
