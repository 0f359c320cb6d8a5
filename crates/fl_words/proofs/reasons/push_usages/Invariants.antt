use Rattle.std.proofs.Common.{◌≡◌, ◌++◌, take, map, string_bytes}
use Rattle.fl_words.specs.Reasons.{usages}
use Rattle.fl_words.proofs.reasons.push_usages.Given as goal

abbrev pub invariant-loop-form : goal.invariant-loop-form
invariant-loop-form l = string_bytes l.text ≡ string_bytes l.fn.text ++ usages l.program (map string_bytes l.words) l.count (take l.form-index l.forms)
