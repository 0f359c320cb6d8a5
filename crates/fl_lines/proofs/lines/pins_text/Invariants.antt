use Rattle.std.proofs.Common.{◌≡◌, take, string_bytes}
use Rattle.fl_lines.specs.Lines.{pins_text}
use Rattle.fl_lines.proofs.lines.pins_text.Given as goal

abbrev pub invariant-loop-pin : goal.invariant-loop-pin
invariant-loop-pin l = string_bytes l.text ≡ pins_text (take l.pin-index l.pins)
