use Rattle.std.proofs.Common.{◌≡◌, ◌++◌, map, take}
use Rattle.ost_object.specs.Views.{file_row}
use Rattle.ost_checkout.specs.Rows.{row_of_file}
use Rattle.ost_checkout.proofs.rows.add_files.Given as goal

abbrev pub invariant-loop-file : goal.invariant-loop-file
invariant-loop-file l = l.rows.items ≡ l.fn.rows.items ++ map (row_of_file l.folder) (map file_row (take l.file-index l.files))
