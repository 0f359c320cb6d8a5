use Rattle.std.proofs.Common.{◌≡◌, take}
use Rattle.std.specs.List.{flat_map}
use Rattle.fl_meta.specs.Mentions.{group_mentions}
use Rattle.fl_meta.proofs.mentions.mentions_of.Given as goal

abbrev pub invariant-loop-group : goal.invariant-loop-group
invariant-loop-group l = l.out ≡ flat_map (group_mentions l.source) (take l.group-index l.group-items)
