use Rattle.std.proofs.Common.{◌≡◌, take, map, string_bytes}
use Rattle.ost_object.specs.Views.{dir_row}
use Rattle.fl_top.specs.Objects.{dirs_text}
use Rattle.fl_top.proofs.showing.dirs_in.Given as goal

abbrev pub invariant-loop-dir : goal.invariant-loop-dir
invariant-loop-dir l = string_bytes l.text ≡ dirs_text (map dir_row (take l.dir-index l.dirs))
