use Rattle.std.proofs.Common.{◌≡◌, take}
use Rattle.fp_keyfile.specs.KeyFile.{keys_of}
use Rattle.fp_small.specs.Order.{sorted_by}
use Rattle.fp_small.proofs.config_reading.pin_keys.Given as goal

abbrev pub invariant-loop-pair : goal.invariant-loop-pair
invariant-loop-pair l = l.pins.items ≡ sorted_by (λ pin. pin) (keys_of (take l.pair-index l.pairs))
