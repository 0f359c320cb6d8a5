use Rattle.std.proofs.Common.{◌≡◌, drop, map}
use Rattle.ost_model.specs.Look.{find_dir}
use Rattle.ost_object.specs.Views.{dir_row as row_of}
use Rattle.ost_walk.proofs.finding.find_dir.Given as goal

abbrev pub invariant-loop-entry : goal.invariant-loop-entry
invariant-loop-entry l = find_dir l.name (map row_of l.entries) ≡ find_dir l.name (map row_of (drop l.entry-index l.entries))
