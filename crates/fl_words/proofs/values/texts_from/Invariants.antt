use Rattle.std.proofs.Common.{◌≡◌, take, map, string_bytes}
use Rattle.fl_words.proofs.values.texts_from.Given as goal

abbrev pub invariant-loop-word : goal.invariant-loop-word
invariant-loop-word l = l.texts.items ≡ map string_bytes (take l.word-index l.left)
