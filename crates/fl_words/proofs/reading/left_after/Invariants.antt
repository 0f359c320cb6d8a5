use Rattle.std.proofs.Common.{◌≡◌, drop, map, string_bytes}
use Rattle.fl_words.specs.Forms.{place_of, left_after}
use Rattle.fl_words.proofs.reading.left_after.Given as goal

abbrev pub invariant-loop-word : goal.invariant-loop-word
invariant-loop-word l = left_after (map place_of l.slots) (map string_bytes l.words) ≡ left_after (map place_of l.left) (map string_bytes (drop l.word-index l.words))
