use Rattle.std.proofs.Common.{◌≡◌, map, take}
use Rattle.fp_small.specs.Config.{pin_pair}
use Rattle.fp_small.proofs.config_writing.pins_group.Given as goal

abbrev pub invariant-loop-pin : goal.invariant-loop-pin
invariant-loop-pin l = l.pairs.items ≡ map pin_pair (take l.pin-index l.pins)
