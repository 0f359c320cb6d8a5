use denote.Ref.{Bor}
use Rattle.std.proofs.Common.{◌≡◌, ◌++◌, ℕ, suc, List, Option, Some, None, length, map, string_bytes}
use Rattle.std.specs.Str.Lossy.{utf8_lossy}
use Rattle.fl_words.specs.Batch.{words_left}
use Rattle.fl_words.specs.Reasons.{words_shown}
use Rattle.fl_words.proofs.batch_reasons.words_shown.Given as goal

abbrev pub invariant-loop-rest : goal.invariant-loop-rest
invariant-loop-rest l = map string_bytes l.words.items ++ map utf8_lossy (words_left l.rest) ≡ words_shown l.line

abbrev left_of : Option (Bor (List ℕ)) → ℕ
left_of None = 0
left_of (Some text) = suc (length text.now)

abbrev pub decreases-loop-rest : goal.decreases-loop-rest
decreases-loop-rest l = left_of l.rest
