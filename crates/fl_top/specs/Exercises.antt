-- The remotes over which a command is run.
use Rattle.std.specs.Prelude.{◌≡◌, ◌⊎◌, ℕ, List, Bool, true, false, Option, Some}
use Rattle.fp_host.specs.Frame.{Unchanged}
use Rattle.fp_host.specs.Moments.{Moments, Goes}
use Rattle.fp_host.specs.Remote.{Holdings}
use Rattle.fl_words.specs.Forms.{command_of}
use Rattle.fl_words.specs.declared.command.Command.{Command}
use Rattle.fl_words.specs.declared.command.Command.TheVariants.{Exercise as Exercising}
use Rattle.fl_gen.specs.Generator.{IsGenerated}
use Rattle.fl_top.specs.Moment.{RunsWords, RunsCommand}
use Rattle.fl_top.specs.Return.{WordsWereRun, CommandWasRun}
use Rattle.fl_top.specs.Told.{told_start}

-- Tests whether a command is an exercise
abbrev pub is_exercise : Command → Bool
is_exercise (Exercising apps) = true
is_exercise command = false

-- The remotes over which a command is run hold this: an exercise is run over remotes that are
-- generated for it, every other command over those that are given
abbrev pub IsRunOver : Option Command → Option Holdings → Option Holdings → Type 0
IsRunOver (Some (Exercising apps)) given holds =
    (held : Holdings) × (holds ≡ Some held) × IsGenerated apps held
IsRunOver command given holds = holds ≡ given

-- The command is an exercise, memory ran out while its remotes were generated, and nothing was done
abbrev pub IsUnmade : Option Command → ℕ → Option Moments → Option Moments → Type 0
IsUnmade (Some (Exercising apps)) status a b = (status ≡ 6) × Unchanged a b
IsUnmade command status a b = ⊥

-- The contract `RunsWords` held at every moment and `WordsWereRun` at the return, over the remotes
-- of the words' command; or memory ran out for the remotes of an exercise, and nothing was done
abbrev pub IsRun : List (List ℕ) → Option (List ℕ) → Option Holdings → ℕ → Option Moments
    → Option Moments → Type 0
IsRun words left given status a b =
    ((holds : Option Holdings) × IsRunOver (command_of words) given holds
    × Goes a b (RunsWords words (told_start left holds a))
    (WordsWereRun words (told_start left holds a) status))
    ⊎ IsUnmade (command_of words) status a b

-- The contract of an exercise with this number of applications held at every moment and at the
-- return, over remotes that are generated for it; or memory ran out for these, and nothing was done
abbrev pub IsExercised : ℕ → Option (List ℕ) → ℕ → Option Moments → Option Moments → Type 0
IsExercised apps left status a b =
    ((held : Holdings) × IsGenerated apps held
    × Goes a b (RunsCommand (Exercising apps) (told_start left (Some held) a))
    (CommandWasRun (Exercising apps) (told_start left (Some held) a) status))
    ⊎ ((status ≡ 6) × Unchanged a b)
