use Rattle.std.proofs.Common.{◌≡◌, drop, map}
use Rattle.ost_model.specs.Look.{find_dir}
use Rattle.ost_object.specs.Views.{dir_row}
use Rattle.fl_export.proofs.trees.find_tree.Given as goal

abbrev pub invariant-loop-dir : goal.invariant-loop-dir
invariant-loop-dir l = find_dir l.name (map dir_row l.dirs) ≡ find_dir l.name (map dir_row (drop l.dir-index l.dirs))
