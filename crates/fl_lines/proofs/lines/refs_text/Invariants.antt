use Rattle.std.proofs.Common.{◌≡◌, take, string_bytes}
use Rattle.fl_lines.specs.Lines.{refs_text}
use Rattle.fl_lines.proofs.lines.refs_text.Given as goal

abbrev pub invariant-loop-row : goal.invariant-loop-row
invariant-loop-row l = string_bytes l.text ≡ refs_text (take l.row-index l.rows)
