-- The contract of a command at each moment.
use Rattle.std.specs.Prelude.{◌≡◌, ◌⊎◌, ℕ, true, false, List, [], ◌∷◌, ◌++◌, Option, None, Result}
use Rattle.fp_host.specs.Paths.{Elements, Slot}
use Rattle.fp_host.specs.Remote.{Holdings}
use Rattle.fp_host.specs.View.{View}
use Rattle.fp_host.specs.Frame.{NoName}
use Rattle.fp_host.specs.Outcome.{Disk, Leaves, shows}
use Rattle.fp_small.specs.declared.op.Op.{Op}
use Rattle.fp_small.specs.declared.state.State.{State}
use Rattle.dep_states.specs.Shown.{Shows}
use Rattle.dep_states.specs.Sound.{Sound, IsSound}
use Rattle.dep_states.specs.After.{Done, after_all}
use Rattle.dep_open.specs.Open.{NotShown}
use Rattle.fl_words.specs.Forms.{command_of}
use Rattle.fl_words.specs.declared.command.Command.{Command}
use Rattle.fl_change.specs.World.{World}
use Rattle.fl_change.specs.Answer.{Answer, Piece, ops_in, ops_of, IsIdle}
use Rattle.fl_change.specs.Changes.{IsUntouched}
use Rattle.fl_change.specs.Performs.{Printed}
use Rattle.fl_top.specs.Answer.{IsAtOnce}
use Rattle.fl_top.specs.Asked.{OpsBy, OpsFor}
use Rattle.fl_top.specs.Counting.{EachOfWords, EachOfCommand, EachOfChanges, EachOfLook, EachOfReport}
use Rattle.fl_top.specs.Exports.{Alters, OnlyRests, StaysAtRest}
use Rattle.fl_top.specs.Remotes.{MakesBy, MakesFor}
use Rattle.fl_top.specs.Status.{only_looks, changes_state, makes_remote}
use Rattle.fl_top.specs.Told.{Told, Looks, IsChange, MakesNone, IsKnown}

-- The image shows the state after these operations on the state at the start `u`. If there are
-- none, it shows a state that a crash at the start could have left.
abbrev pub ShowsAfter : View → List Done → Disk → Type 0
ShowsAfter u [] disk =
    (before : Disk) × Leaves u before × (s : State) × Shows before s × Shows disk s
ShowsAfter u (op ∷ ops) disk = (s : State) × Shows (shows u) s × Shows disk (after_all s (op ∷ ops))

-- The image shows the installation after a prefix of the answer's operations that includes all
-- acknowledged ones, and is sound
pub record IsPrefix (a : Answer) (acknowledged : List Done) (u : View) (disk : Disk) : Type 0 where
  pub done : List Done
  pub undone : List Done
  pub prefix : ops_of a ≡ done ++ undone
  pub more : List Done
  pub holds : done ≡ acknowledged ++ more
  pub shown : ShowsAfter u done disk
  pub sound : Sound disk

-- The image shows the installation after the acknowledged operations and no others, and is sound
pub record IsJust (acknowledged : List Done) (u : View) (disk : Disk) : Type 0 where
  pub shown : ShowsAfter u acknowledged disk
  pub sound : Sound disk

-- The contract of a command with this answer, from the start `u` to any moment `w`. The bytes
-- printed so far are the first pieces of the answer. Over a sound start, each crash leaves the
-- installation after a prefix of the answer's operations that includes those acknowledged by these
-- pieces. If the answer has no operation and abandons no pull (`IsIdle`), names change only by
-- tidying, by a refresh of `exports` if nothing is refused, and by making a remote if the answer is
-- the line of a commit. If the words or the input are refused, nothing but the printed bytes
-- changes.
pub record Runs (a : Answer) (u w : View) : Type 0 where
  pub said : List Piece
  pub so_far : Printed a said u w
  pub prefix : IsSound u → (disk : Disk) → Leaves w disk → IsPrefix a (ops_in said) u disk
  pub only_rests : IsIdle a → (s : State) → Shows (shows u) s → OnlyRests a s u w
  pub untouched : IsAtOnce a.refusal → IsUntouched u w

-- The contract of a command from the start `u` to any moment `w`. `Runs` holds for each answer that
-- counts (`Each`). Whatever the answer, the command changes no more than `Alters` allows for the
-- operations in `May` and for `Makes`; if a commit may be brought, this holds only over remotes
-- that tell what they hold and an installation that is ready. If the command changes the state, an
-- answer without work leaves an installation at rest as it is. If `Still` holds of the start,
-- nothing but the printed bytes changes.
pub record Moment (Each : View → (Holdings → Answer → Type 0) → Type 0) (May : Op → Type 0)
    (holds : Option Holdings) (Makes : Elements → Slot → Type 0) (Changing : Type 0)
    (Still : View → Type 0) (u w : View) : Type 0 where
  pub changes : IsKnown May holds u → Alters May Makes u w
  pub runs : Each u (λ held a. Runs a u w)
  pub rests : Changing → Each u (λ held a. StaysAtRest a u w)
  pub untouched : Still u → IsUntouched u w

-- ---- of what is run

-- The contract of words at each moment. They are still if they are no command, or a command that
-- only looks; also over an image that shows no state, unless they make a remote.
abbrev pub RunsWords : List (List ℕ) → Told → View → View → Type 0
RunsWords words t u w =
    Moment (EachOfWords words t) (OpsFor (command_of words) t.left) t.holds
    (MakesFor (command_of words)) (IsChange (command_of words))
    (λ v. Looks (command_of words) ⊎ (MakesNone (command_of words) × NotShown (shows v))) u w

-- The contract of a command at each moment. It is still if it only looks; also over an image that
-- shows no state, unless it makes a remote.
abbrev pub RunsCommand : Command → Told → View → View → Type 0
RunsCommand asked t u w =
    Moment (EachOfCommand asked t) (OpsBy asked t.left) t.holds
    (MakesBy asked) (changes_state asked ≡ true)
    (λ v. (only_looks asked ≡ true) ⊎ ((makes_remote asked ≡ false) × NotShown (shows v))) u w

-- The contract of changes at each moment. They are still over an image that shows no state.
abbrev pub RunsChanges : Option Holdings → (Op → Type 0) → (Holdings → World → Answer) → View → View
    → Type 0
RunsChanges holds May f u w =
    Moment (EachOfChanges holds f) May holds NoName (Unit {0}) (λ v. NotShown (shows v)) u w

-- No operation is allowed
abbrev pub NoOp : Op → Type 0
NoOp op = ⊥

-- The contract of a look at each moment: it is always still
abbrev pub RunsLook : (Result World Elements → Answer) → View → View → Type 0
RunsLook by u w = Moment (EachOfLook by) NoOp None NoName ⊥ (λ v. Unit {0}) u w

-- The contract of `fsck` at each moment: it is always still
abbrev pub RunsCheck : View → View → Type 0
RunsCheck u w = Moment EachOfReport NoOp None NoName ⊥ (λ v. Unit {0}) u w
