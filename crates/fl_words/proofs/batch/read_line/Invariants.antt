use denote.Ref.{Bor}
use Rattle.std.proofs.Common.{◌≡◌, ◌++◌, ℕ, suc, List, Option, Some, None, length, map, string_bytes}
use Rattle.fl_words.specs.Batch.{words_in, words_left}
use Rattle.fl_words.proofs.batch.read_line.Given as goal

abbrev pub invariant-loop-rest : goal.invariant-loop-rest
invariant-loop-rest l = map string_bytes l.words.items ++ words_left l.rest ≡ words_in l.line

abbrev left_of : Option (Bor (List ℕ)) → ℕ
left_of None = 0
left_of (Some text) = suc (length text.now)

abbrev pub decreases-loop-rest : goal.decreases-loop-rest
decreases-loop-rest l = left_of l.rest
