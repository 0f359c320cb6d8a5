use Rattle.std.proofs.Common.{◌≡◌, ◌++◌, take}
use Rattle.std.specs.List.{flat_map}
use Rattle.fl_meta.specs.Mentions.{pair_mentions}
use Rattle.fl_meta.proofs.mentions.push_group.Given as goal

abbrev pub invariant-loop-pair : goal.invariant-loop-pair
invariant-loop-pair l = l.out ≡ l.initial.out ++ flat_map (pair_mentions l.source l.group.name) (take l.pair-index l.pair-items)
