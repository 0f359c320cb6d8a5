use Rattle.std.proofs.Common.{◌≡◌, take}
use Rattle.std.specs.List.{flat_map}
use Rattle.fl_meta.specs.Metadata.{extension_of}
use Rattle.fl_meta.proofs.meta.extensions_of.Given as goal

abbrev pub invariant-loop-group : goal.invariant-loop-group
invariant-loop-group l = l.names ≡ flat_map extension_of (take l.group-index l.group-items)
