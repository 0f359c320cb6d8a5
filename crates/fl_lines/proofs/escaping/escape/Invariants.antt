use Rattle.std.proofs.Common.{◌≡◌, string_bytes}
use Rattle.std.specs.Prelude.{encode_utf8_all}
use Rattle.fl_lines.specs.Lines.{escaped}
use Rattle.fl_lines.proofs.escaping.escape.Given as goal

abbrev pub invariant-loop-letter : goal.invariant-loop-letter
invariant-loop-letter l = string_bytes l.out ≡ escaped (encode_utf8_all l.yielded)
