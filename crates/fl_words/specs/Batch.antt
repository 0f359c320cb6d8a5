-- A batch: lines that ask for one change each.
use denote.Ref.{Bor}
use Rattle.std.specs.Prelude.{[], ◌≡◌, ◌==◌, ◌+◌, ℕ, Bool, not, List, Option, Some, None, option_and_then, Result, Ok, Err}
use Rattle.std.specs.List.{position, filter_map, slice_split}
use Rattle.std.specs.Option.{is_some}
use Rattle.std.specs.Str.{IsUtf8}
use Rattle.fp_keyfile.specs.Lines.{lines_of}
use Rattle.fl_words.specs.declared.command.Command.{Command}
use Rattle.fl_words.specs.declared.command.Command.TheVariants.{Change as Changing}
use Rattle.fl_words.specs.declared.command.Change.{Change}
use Rattle.fl_words.specs.declared.command.WordsError.{WordsError}
use Rattle.fl_words.specs.declared.command.WordsError.TheVariants.{BadWords, NoMemory as WordsNoMemory}
use Rattle.fl_words.specs.declared.batch.BatchError.{BatchError}
use Rattle.fl_words.specs.declared.batch.BatchError.TheVariants.{BadRecord, NoMemory}
use Rattle.fl_words.specs.Forms.{command_of}

-- The words of a line. A space ends a word and begins another, so there is an empty word between
-- two spaces side by side.
abbrev pub words_in : List ℕ → List (List ℕ)
words_in line = slice_split (λ b. b == 32) line

-- The change that a command is; None for another command
abbrev pub change_of : Command → Option Change
change_of (Changing change) = Some change
change_of _ = None

-- The change that a line asks for; None if it asks for none
unfoldable pub batch_change : List ℕ → Option Change
batch_change line = option_and_then change_of (command_of (words_in line))

-- Tests whether the line asks for no change
abbrev pub asks_none : List ℕ → Bool
asks_none line = not (is_some (batch_change line))

-- The changes of the lines, or the number of the first bad line, from 1. The option is the number
-- of lines before that one, if there is one.
abbrev pub changes_in : Option ℕ → List (List ℕ) → Result (List Change) ℕ
changes_in None lines = Ok (filter_map batch_change lines)
changes_in (Some before) lines = Err (before + 1)

-- The changes that a batch asks for, one for each line, or the number of the first line that asks
-- for none, from 1. The last line may lack its newline.
unfoldable pub batch_of : List ℕ → Result (List Change) ℕ
batch_of bytes = changes_in (position asks_none (lines_of bytes)) (lines_of bytes)

-- The batch is bad, and this is its first line that asks for no change; or memory ran out
abbrev pub IsBadBatch : List ℕ → BatchError → Type 0
IsBadBatch bytes (BadRecord line) = batch_of bytes ≡ Err line
IsBadBatch bytes NoMemory = Unit {0}

-- The line asks for no change, or memory ran out
abbrev pub IsNoRecord : List ℕ → WordsError → Type 0
IsNoRecord line (BadWords index) = batch_change line ≡ None
IsNoRecord line WordsNoMemory = Unit {0}

-- The word is no UTF-8, or memory ran out
abbrev pub IsNoText : List ℕ → WordsError → Type 0
IsNoText word (BadWords index) = IsUtf8 word → ⊥
IsNoText word WordsNoMemory = Unit {0}

-- The words of the rest of a line after a space; none if there was no space
abbrev pub words_left : Option (Bor (List ℕ)) → List (List ℕ)
words_left None = []
words_left (Some rest) = words_in rest.now
