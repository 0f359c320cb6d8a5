use Rattle.std.proofs.Common.{◌≡◌, take, map, string_bytes}
use Rattle.ost_object.specs.Views.{file_row}
use Rattle.fl_top.specs.Objects.{files_text}
use Rattle.fl_top.proofs.showing.files_in.Given as goal

abbrev pub invariant-loop-file : goal.invariant-loop-file
invariant-loop-file l = string_bytes l.text ≡ files_text (map file_row (take l.file-index l.files))
