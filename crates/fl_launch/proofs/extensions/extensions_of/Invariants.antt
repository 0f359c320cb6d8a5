use Rattle.std.proofs.Common.{◌≡◌, string_bytes, take}
use Rattle.std.specs.List.{flat_map}
use Rattle.fl_launch.specs.Extensions.{extension_of}
use Rattle.fl_launch.proofs.extensions.extensions_of.Given as goal

abbrev pub invariant-loop-point : goal.invariant-loop-point
invariant-loop-point l = string_bytes l.out ≡ flat_map (extension_of l.state) (take l.point-index l.points)
