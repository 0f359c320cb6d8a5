use Rattle.std.proofs.Common.{◌≡◌, ◌++◌, string_bytes, take}
use Rattle.std.specs.List.{flat_map}
use Rattle.fp_keyfile.specs.KeyFile.{pair_text}
use Rattle.fl_launch.proofs.writing.push_group.Given as goal

abbrev pub invariant-loop-pair : goal.invariant-loop-pair
invariant-loop-pair l = string_bytes l.out ≡ string_bytes l.initial.out ++ flat_map pair_text (take l.pair-index l.pair-items)
