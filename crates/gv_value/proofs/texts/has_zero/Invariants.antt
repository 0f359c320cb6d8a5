use Rattle.std.proofs.Common.{◌≡◌, drop}
use Rattle.gv_value.specs.Texts.{has_zero}
use Rattle.gv_value.proofs.texts.has_zero.Given as goal

abbrev pub invariant-loop-byte : goal.invariant-loop-byte
invariant-loop-byte l = has_zero (drop l.byte-index l.text) ≡ has_zero l.text
