use Rattle.std.proofs.Common.{◌≡◌, drop, map, string_bytes}
use Rattle.std.specs.List.{find}
use Rattle.fl_words.specs.Forms.{reads}
use Rattle.fl_words.proofs.reading.form_of.Given as goal

abbrev pub invariant-loop-form : goal.invariant-loop-form
invariant-loop-form l = find (reads (map string_bytes l.words)) l.forms ≡ find (reads (map string_bytes l.words)) (drop l.form-index l.forms)
