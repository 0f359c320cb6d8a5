use Rattle.std.proofs.Common.{◌≡◌, ◌++◌, take, string_bytes}
use Rattle.std.specs.Prelude.{flat_map}
use Rattle.fl_words.specs.Notes.{note_of}
use Rattle.fl_words.proofs.option_notes.push_notes.Given as goal

abbrev pub invariant-loop-mention : goal.invariant-loop-mention
invariant-loop-mention l = string_bytes l.text ≡ string_bytes l.fn.text ++ flat_map note_of (take l.mention-index l.mention-items)
