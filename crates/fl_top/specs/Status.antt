-- The exit statuses.
use Rattle.std.specs.Prelude.{◌≡◌, ◌≤◌, ◌⊎◌, ℕ, Bool, true, Option, Some, None}
use Rattle.fp_small.specs.declared.refusal.Refusal.{Refusal}
use Rattle.fp_small.specs.declared.refusal.Refusal.TheVariants.{BadWords}
use Rattle.fl_words.specs.declared.command.Command.{Command}
use Rattle.fl_change.specs.Answer.{Answer}
use Rattle.fl_words.specs.Words.{row_of, work_of}
use Rattle.fl_top.specs.Kinds.{is_altering, is_looking, is_checking, is_making}

-- The number is an exit status: 0 done, 1 refused, 2 no command, 3 the host failed or its content
-- didn't meet the command's condition, 4 the remotes failed, 5 the input failed, 6 memory ran out
abbrev pub IsStatus : ℕ → Type 0
IsStatus n = n ≤ 6

-- With this status the whole answer was given
abbrev pub IsAnswered : ℕ → Type 0
IsAnswered n = (n ≡ 0) ⊎ ((n ≡ 1) ⊎ (n ≡ 2))

-- Tests whether a command only prints and changes nothing
abbrev pub only_looks : Command → Bool
only_looks command = is_looking (work_of command)

-- Tests whether a command may change the installation's state
abbrev pub changes_state : Command → Bool
changes_state command = is_altering (work_of command)

-- Tests whether a command makes a remote
abbrev pub makes_remote : Command → Bool
makes_remote command = is_making (work_of command)

-- Tests whether a command reads the input
abbrev pub reads_input : Command → Bool
reads_input command = (row_of command).reads_input

-- Tests whether a command checks each object of the store
abbrev pub checks_store : Command → Bool
checks_store command = is_checking (work_of command)

-- The status of a refusal: 2 for words that are no command, 1 for every other one
abbrev pub status_of : Refusal → ℕ
status_of (BadWords index) = 2
status_of _ = 1

-- The status of a command that was done or refused
abbrev pub status_by : Option Refusal → ℕ
status_by None = 0
status_by (Some refusal) = status_of refusal

-- The status of an answer
abbrev pub status_at : Answer → ℕ
status_at a = status_by a.refusal

-- A command may end with this status: 0, 1, 3 or 6; 4 only if it may change the state; 5 only if it
-- reads the input
abbrev pub IsOfCommand : Command → ℕ → Type 0
IsOfCommand command n = (n ≡ 0)
    ⊎ ((n ≡ 1) ⊎ ((n ≡ 3) ⊎ (((n ≡ 4) × (changes_state command ≡ true))
    ⊎ (((n ≡ 5) × (reads_input command ≡ true)) ⊎ (n ≡ 6)))))

-- Words may end with this status, whatever the host. Words that are no command end with 2, unless
-- the host fails or memory runs out; a command never ends with 2.
abbrev pub IsOfWords : Option Command → ℕ → Type 0
IsOfWords None status = (status ≡ 2) ⊎ ((status ≡ 3) ⊎ (status ≡ 6))
IsOfWords (Some command) status = IsOfCommand command status
