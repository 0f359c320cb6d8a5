use Rattle.std.proofs.Common.{◌≡◌, take, map, string_bytes}
use Rattle.fl_words.specs.Notes.{notes}
use Rattle.fl_words.proofs.option_notes.notes.Given as goal

abbrev pub invariant-loop-word : goal.invariant-loop-word
invariant-loop-word l = string_bytes l.text ≡ notes (map string_bytes (take l.word-index l.words))
