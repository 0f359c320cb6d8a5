-- Runs without a failure.
use Rattle.std.specs.Prelude.{◌≡◌, ◌⊎◌, ℕ, List, Option, Some, Result}
use Rattle.fp_host.specs.Paths.{Elements}
use Rattle.fp_host.specs.View.{View}
use Rattle.fp_host.specs.Moments.{Moments, Rose}
use Rattle.fp_host.specs.Frame.{AtEnd}
use Rattle.fp_host.specs.Outcome.{shows}
use Rattle.fp_host.specs.Remote.{Holdings}
use Rattle.ost_walk.specs.Ends.{Outside}
use Rattle.dep_states.specs.Sound.{IsSound}
use Rattle.fl_words.specs.Forms.{command_of}
use Rattle.fl_words.specs.declared.command.Command.{Command}
use Rattle.fl_change.specs.World.{World}
use Rattle.fl_change.specs.Answer.{Answer}
use Rattle.fl_change.specs.Performs.{AreToldFor}
use Rattle.fl_top.specs.Answer.{answer, Given, IsOver}
use Rattle.fl_top.specs.Asked.{AsksFor}
use Rattle.fl_top.specs.Exercises.{IsRunOver, IsUnmade}
use Rattle.fl_top.specs.Fsck.{IsListable}
use Rattle.fl_top.specs.Return.{Answers, Stands}
use Rattle.fl_top.specs.Told.{Told, IsGiven, Checks, IsFreeFor, told_start}

-- The start fits the command: each crash leaves the installation sound; no path of the store is too
-- long, if the command checks the store; and nothing is in the way of a remote that it makes
pub record IsFit (command : Option Command) (u : View) : Type 0 where
  pub sound : IsSound u
  pub listable : Checks command → IsListable u
  pub free : IsFreeFor command u

-- The start fits the command, if the host tells its content
abbrev pub StartsFit : Option Command → Option Moments → Type 0
StartsFit command start = (m : Moments) → start ≡ Some m → IsFit command m.now

-- The whole answer was given, with its status; or memory ran out (status 6), and each crash leaves
-- the state after the acknowledged operations and no others
abbrev pub IsWhole : Holdings → Answer → ℕ → View → View → Type 0
IsWhole held a status u w = Answers held a status u w ⊎ ((status ≡ 6) × Stands a u w)

-- Each answer that counts was given whole, or memory ran out; and there is such an answer, whatever
-- the command is given
pub record WasWhole (words : List (List ℕ)) (t : Told) (status : ℕ) (u w : View) : Type 0 where
  pub each : (given : Given) → IsGiven t (command_of words) given → (shown : Result World Elements)
      → IsOver (answer words given) (shows u) shown
      → IsWhole given.held (answer words given shown) status u w
  pub one : (given : Given) → (shown : Result World Elements)
      × IsOver (answer words given) (shows u) shown

-- The run gave its answer over the remotes of its command, or memory ran out; for an exercise also
-- while its remotes were generated
abbrev pub EndsWhole : List (List ℕ) → Option (List ℕ) → Option Holdings → ℕ → Option Moments
    → Option Moments → Type 0
EndsWhole words left given status a b =
    ((holds : Option Holdings) × IsRunOver (command_of words) given holds
    × AtEnd (WasWhole words (told_start left holds a) status) a b)
    ⊎ IsUnmade (command_of words) status a b

-- If the start fits the command, the remotes tell what they hold where a commit may be brought, and
-- no count of faults rises, neither the host's nor the remotes', then the whole answer was given,
-- or memory ran out
abbrev pub EndsUndisturbed : List (List ℕ) → Option (List ℕ) → ℕ → Outside → Outside → Type 0
EndsUndisturbed words left status u w =
    StartsFit (command_of words) u.told → AreToldFor (AsksFor (command_of words) left) u.holdings
    → (Rose u.host_faults w.host_faults → ⊥) → (Rose u.remote_faults w.remote_faults → ⊥)
    → EndsWhole words left u.holdings status u.told w.told
