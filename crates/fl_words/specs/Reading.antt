-- Conditions on the errors of reading words. An error for lack of memory has none.
use Rattle.std.specs.Prelude.{◌≡◌, ◌⊎◌, ℕ, List, Bool, true, false, None, Result, Ok, Err}
use Rattle.fp_name.specs.declared.fault.NameError.{NameError}
use Rattle.fp_name.specs.declared.fault.NameError.TheVariants as fault
use Rattle.fl_words.specs.declared.command.WordsError.{WordsError}
use Rattle.fl_words.specs.declared.command.WordsError.TheVariants.{BadWords, NoMemory}
use Rattle.fl_words.specs.declared.forms.Form.{Form}
use Rattle.fl_words.specs.Forms.{Place, remote, url, fits, reads, word_at, command_of, bad_index}

-- The words are no command, and the index is that of the first bad word
abbrev pub IsNoCommand : List (List ℕ) → WordsError → Type 0
IsNoCommand words (BadWords index) = (command_of words ≡ None) × (index ≡ bad_index words)
IsNoCommand words NoMemory = Unit {0}

-- The words aren't of the form
abbrev pub IsMisfit : Form → List (List ℕ) → WordsError → Type 0
IsMisfit form words (BadWords index) = reads words form ≡ false
IsMisfit form words NoMemory = Unit {0}

-- The text doesn't fit the place
abbrev pub IsMisplaced : Place → List ℕ → WordsError → Type 0
IsMisplaced place text (BadWords index) = fits place text ≡ false
IsMisplaced place text NoMemory = Unit {0}

-- The second word is no name of a remote, or the third no URL
abbrev pub IsRemoteMisplaced : List (List ℕ) → WordsError → Type 0
IsRemoteMisplaced words (BadWords index) =
    (fits remote (word_at 1 words) ≡ false) ⊎ (fits url (word_at 2 words) ≡ false)
IsRemoteMisplaced words NoMemory = Unit {0}

-- `good` is whether parsing succeeded, and memory didn't run out
abbrev pub IsReadBy : {A : Type 0} → Result A NameError → Bool → Type 0
IsReadBy (Ok a) good = good ≡ true
IsReadBy (Err fault.Bad) good = good ≡ false
IsReadBy (Err fault.NoMemory) good = ⊥

-- The text was parsed and found bad
abbrev pub IsUnread : {A : Type 0} → Result A NameError → WordsError → Type 0
IsUnread read (BadWords index) = read ≡ Err fault.Bad
IsUnread read NoMemory = Unit {0}
