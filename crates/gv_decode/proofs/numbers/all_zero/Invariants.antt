use Rattle.std.proofs.Common.{◌≡◌, drop}
use Rattle.gv_value.specs.Bytes.{all_zero}
use Rattle.gv_decode.proofs.numbers.all_zero.Given as goal

abbrev pub invariant-loop-byte : goal.invariant-loop-byte
invariant-loop-byte l = all_zero (drop l.byte-index l.bytes) ≡ all_zero l.bytes
