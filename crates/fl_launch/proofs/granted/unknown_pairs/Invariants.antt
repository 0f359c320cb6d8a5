use Rattle.std.proofs.Common.{◌≡◌, take}
use Rattle.std.specs.List.{flat_map}
use Rattle.fl_meta.specs.Names.{unknown_lists}
use Rattle.fl_launch.specs.Granted.{unknown_pair}
use Rattle.fl_launch.proofs.granted.unknown_pairs.Given as goal

abbrev pub invariant-loop-list : goal.invariant-loop-list
invariant-loop-list l = l.pairs ≡ flat_map (unknown_pair l.mentions) (take l.list-index unknown_lists)
