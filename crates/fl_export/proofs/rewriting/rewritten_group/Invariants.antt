use Rattle.std.proofs.Common.{◌≡◌, take}
use Rattle.std.specs.List.{flat_map}
use Rattle.fl_export.specs.Rewritten.{rewritten_pair}
use Rattle.fl_export.proofs.rewriting.rewritten_group.Given as goal

abbrev pub invariant-loop-pair : goal.invariant-loop-pair
invariant-loop-pair l = l.pairs.items ≡ flat_map (rewritten_pair l.name) (take l.pair-index l.pair-items)
