use Rattle.std.proofs.Common.{◌≡◌, length, map}
use Rattle.fl_words.specs.Forms.{place_of, left_after_word}
use Rattle.fl_words.proofs.reading.left_after_word.Given as goal

abbrev pub invariant-loop-left : goal.invariant-loop-left
invariant-loop-left l = left_after_word (map place_of l.slots) l.word ≡ left_after_word (map place_of l.left) l.word

abbrev pub decreases-loop-left : goal.decreases-loop-left
decreases-loop-left l = length l.left
