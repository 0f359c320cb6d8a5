-- The part of its input that a command takes.
use Rattle.std.specs.Prelude.{◌≡◌, ◌≤◌, ℕ, true, false, List, Option, Some, None, Result, Ok, Err}
use Rattle.fp_host.specs.Moments.{Rose}
use Rattle.fl_words.specs.declared.command.Command.{Command}
use Rattle.fl_top.specs.Input.{IsDrained}
use Rattle.fl_top.specs.Status.{IsAnswered, reads_input}
use Rattle.fl_top.specs.declared.command_end.CommandEnd.{CommandEnd}
use Rattle.fl_top.specs.declared.command_end.CommandEnd.TheVariants as command

-- If a command that reads the input was done or refused, it took all of an input of at most 64 MiB
abbrev pub TakenBy : Result (Unit {0}) CommandEnd → Option (List ℕ) → Option (List ℕ) → Type 0
TakenBy (Ok t) old new = IsDrained old new
TakenBy (Err (command.Refused refusal)) old new = IsDrained old new
TakenBy (Err command.Fault) old new = Unit {0}
TakenBy (Err command.RemoteFault) old new = Unit {0}
TakenBy (Err command.InputFault) old new = Unit {0}
TakenBy (Err command.NoMemory) old new = Unit {0}

-- A command that ended with this result took this much of its input: if it reads the input and was
-- done or refused, all of an input of at most 64 MiB; if it doesn't read the input, nothing
pub record Takes (asked : Command) (result : Result (Unit {0}) CommandEnd)
    (old new : Option (List ℕ)) : Type 0 where
  pub read : reads_input asked ≡ true → TakenBy result old new
  pub left : reads_input asked ≡ false → new ≡ old

-- If a command that reads the input gave its whole answer, it took all of an input of at most 64
-- MiB. A command that doesn't read it, and words that are no command, take nothing.
abbrev pub WasTaken : Option Command → ℕ → Option (List ℕ) → Option (List ℕ) → Type 0
WasTaken None status old new = new ≡ old
WasTaken (Some command) status old new = (reads_input command ≡ true → IsAnswered status
    → IsDrained old new) × (reads_input command ≡ false → new ≡ old)

-- The use of the input. It is read before anything is done: status 5 comes only if its count of
-- faults rose, and then the host is unchanged. A command that reads the input and gave its whole
-- answer took all of an input of at most 64 MiB; another command took nothing. The count never
-- falls.
pub record ReadsInput (command : Option Command) (status : ℕ) (unchanged : Type 0)
    (old new : Option (List ℕ)) (before now : ℕ) : Type 0 where
  pub failed : status ≡ 5 → Rose before now × unchanged
  pub taken : WasTaken command status old new
  pub later : before ≤ now
