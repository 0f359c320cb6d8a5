use Rattle.std.proofs.Common.{◌≡◌, drop, map, string_bytes}
use Rattle.std.specs.Prelude.{max}
use Rattle.fl_words.specs.Forms.{most}
use Rattle.fl_words.proofs.reading.furthest.Given as goal

abbrev pub invariant-loop-form : goal.invariant-loop-form
invariant-loop-form l = most (map string_bytes l.words) l.forms ≡ max l.furthest (most (map string_bytes l.words) (drop l.form-index l.forms))
