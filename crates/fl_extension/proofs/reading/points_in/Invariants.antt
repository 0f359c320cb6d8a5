use Rattle.std.proofs.Common.{◌≡◌, take}
use Rattle.std.specs.List.{flat_map}
use Rattle.fl_extension.specs.Points.{point_of}
use Rattle.fl_extension.proofs.reading.points_in.Given as goal

abbrev pub invariant-loop-group : goal.invariant-loop-group
invariant-loop-group l = l.points.items ≡ flat_map (point_of l.of) (take l.group-index l.groups)
