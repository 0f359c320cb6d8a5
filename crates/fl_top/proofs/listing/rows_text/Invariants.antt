use Rattle.std.proofs.Common.{◌≡◌, take, string_bytes}
use Rattle.fl_top.specs.Exports.{exports_text}
use Rattle.fl_top.proofs.listing.rows_text.Given as goal

abbrev pub invariant-loop-row : goal.invariant-loop-row
invariant-loop-row l = string_bytes l.text ≡ exports_text (take l.row-index l.rows)
