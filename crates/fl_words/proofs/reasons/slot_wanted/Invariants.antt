use Rattle.std.proofs.Common.{◌≡◌, drop, map, string_bytes}
use Rattle.fl_words.specs.Reasons.{place_wanted}
use Rattle.fl_words.proofs.reasons.slot_wanted.Given as goal

abbrev pub invariant-loop-form : goal.invariant-loop-form
invariant-loop-form l = place_wanted (map string_bytes l.words) l.index l.forms ≡ place_wanted (map string_bytes l.words) l.index (drop l.form-index l.forms)
