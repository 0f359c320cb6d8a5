-- The contract of a command at its return.
use Rattle.std.specs.Prelude.{◌≡◌, ◌≢◌, ◌⊎◌, ℕ, true, List, [], ◌++◌, Option, None, Some, Result, Ok, Err}
use Rattle.fp_host.specs.Paths.{Elements}
use Rattle.fp_host.specs.Remote.{Holdings}
use Rattle.fp_host.specs.View.{View}
use Rattle.fp_host.specs.Moments.{Goes, Moments}
use Rattle.fp_host.specs.Outcome.{Disk, Leaves, shows}
use Rattle.fp_small.specs.Files.{KeepsFiles}
use Rattle.fp_small.specs.declared.state.State.{State}
use Rattle.dep_states.specs.Lasting.{IsLasting, SharesAs}
use Rattle.dep_states.specs.Shown.{Shows}
use Rattle.dep_states.specs.Sound.{IsSound}
use Rattle.dep_states.specs.After.{after_all}
use Rattle.dep_states.specs.Settled.{Settled}
use Rattle.fl_words.specs.Forms.{command_of}
use Rattle.fl_words.specs.declared.command.Command.{Command}
use Rattle.fl_change.specs.World.{World, world_at}
use Rattle.fl_change.specs.Answer.{Answer, Piece, lines_of, pieces_text, ops_in, ops_of, set_config, IsUnpulled}
use Rattle.fl_change.specs.Changes.{HasText}
use Rattle.fl_change.specs.Created.{CreatesInTurn}
use Rattle.fl_change.specs.Performs.{Printed}
use Rattle.fl_change.specs.declared.end.RunEnd.{RunEnd}
use Rattle.fl_change.specs.declared.end.RunEnd.TheVariants.{Refused, Fault, RemoteFault, NoMemory}
use Rattle.fl_top.specs.Counting.{EachOfWords, OneOfWords, EachOfCommand, OneOfCommand, EachOfChanges, OneOfChanges, EachOfLook, OneOver, EachOfReport, OneOfReport}
use Rattle.fl_top.specs.Exports.{LeavesExports}
use Rattle.fl_top.specs.Moment.{IsJust, RunsCommand}
use Rattle.fl_top.specs.Remotes.{MadeBy, MadeFor}
use Rattle.fl_top.specs.Status.{status_at, IsAnswered}
use Rattle.fl_top.specs.Told.{Told, told_start}
use Rattle.fl_top.specs.declared.command_end.CommandEnd.{CommandEnd}
use Rattle.fl_top.specs.declared.command_end.CommandEnd.TheVariants as command

-- ---- of one answer, by the status

-- The first pieces of the answer were printed, and over a sound start each crash leaves the state
-- after the operations that these pieces acknowledge, and no others
pub record Stands (a : Answer) (u w : View) : Type 0 where
  pub said : List Piece
  pub so_far : Printed a said u w
  pub just : IsSound u → (disk : Disk) → Leaves w disk → IsJust (ops_in said) u disk

-- The whole answer was given and printed. Over a sound start, the image shows the state after its
-- operations, and is settled if an operation was done or it was settled before; if an operation was
-- done, each crash leaves the exports of the state, also if the rest was refused. If an operation
-- set `config`, the file has exactly its text and the permission bits 0644. Unless a refusal
-- abandoned a pull, each new file that isn't empty was put at a lasting name, and each operation in
-- turn made exactly the objects that it lacked, by what the remotes hold.
pub record Answers (held : Holdings) (a : Answer) (status : ℕ) (u w : View) : Type 0 where
  pub status_is : status ≡ status_at a
  pub printed : w.printed ≡ u.printed ++ pieces_text (lines_of a)
  pub shown : IsSound u → (s : State) → Shows (shows u) s → Shows (shows w) (after_all s (ops_of a))
  pub tidied : IsSound u → Settled (shows u) ⊎ (ops_of a ≢ []) → Settled (shows w)
  pub exports : ops_of a ≢ [] → IsSound u → LeavesExports w
  pub text : set_config (ops_of a) ≡ true → (s : State) → Shows (shows u) s
      → HasText (after_all s (ops_of a)) w
  pub shares : IsUnpulled a.refusal → SharesAs IsLasting u w
  pub creates : IsUnpulled a.refusal → (s : State) → Shows (shows u) s
      → CreatesInTurn held (world_at s u) (ops_of a) u w

-- The contract at the return with this status. 0, 1 and 2: the whole answer was given. 3: the host
-- failed, or its content didn't meet the command's condition. 4: the remotes failed. 5: the input
-- failed. 6: memory ran out. With any status but 3, each crash leaves the state after the
-- acknowledged operations and no others. A sound installation stays sound.
pub record WasRun (held : Holdings) (a : Answer) (status : ℕ) (u w : View) : Type 0 where
  pub answers : IsAnswered status → Answers held a status u w
  pub stands : (status ≡ 3 → ⊥) → Stands a u w
  pub sound : IsSound u → IsSound w

-- ---- of one answer, by how it ended

-- The whole answer was given, except the line of a refusal and the exports. Its pieces were
-- printed. Over a sound start, each crash leaves the state after its operations, and the image is
-- settled if an operation was done or it was settled before. If an operation set `config`, the file
-- has exactly its text. Each old file keeps its mode and bytes. Unless a refusal abandoned a pull,
-- each new file that isn't empty was put at a lasting name, and each operation in turn made exactly
-- the objects that it lacked, by what the remotes hold.
pub record Completes (held : Holdings) (a : Answer) (u w : View) : Type 0 where
  pub printed : w.printed ≡ u.printed ++ pieces_text a.pieces
  pub just : IsSound u → (disk : Disk) → Leaves w disk → IsJust (ops_of a) u disk
  pub shown : IsSound u → (s : State) → Shows (shows u) s → Shows (shows w) (after_all s (ops_of a))
  pub tidied : IsSound u → Settled (shows u) ⊎ (ops_of a ≢ []) → Settled (shows w)
  pub text : set_config (ops_of a) ≡ true → (s : State) → Shows (shows u) s
      → HasText (after_all s (ops_of a)) w
  pub files : KeepsFiles u w
  pub shares : IsUnpulled a.refusal → SharesAs IsLasting u w
  pub creates : IsUnpulled a.refusal → (s : State) → Shows (shows u) s
      → CreatesInTurn held (world_at s u) (ops_of a) u w

-- The whole answer was given, except the line of a refusal. If an operation was done over a sound
-- start, each crash leaves the exports of the state.
pub record Finishes (held : Holdings) (a : Answer) (u w : View) : Type 0 where
  pub completes : Completes held a u w
  pub exports : ops_of a ≢ [] → IsSound u → LeavesExports w

-- The end of changes or of a look with this result. Done or refused, the whole answer was given,
-- except the line of a refusal. If the remotes failed or memory ran out, each crash leaves the
-- state after the acknowledged operations and no others.
abbrev pub Ended : Holdings → Answer → Result (Unit {0}) RunEnd → View → View → Type 0
Ended held a (Ok t) u w = (a.refusal ≡ None) × Finishes held a u w
Ended held a (Err (Refused refusal)) u w = (a.refusal ≡ Some refusal) × Finishes held a u w
Ended held a (Err Fault) u w = Unit {0}
Ended held a (Err RemoteFault) u w = Stands a u w
Ended held a (Err NoMemory) u w = Stands a u w

-- The end with this answer and result, whatever the remotes hold
abbrev pub EndsAnyway : Answer → Result (Unit {0}) RunEnd → View → View → Type 0
EndsAnyway a result u w = (held : Holdings) → Ended held a result u w

-- The whole answer was given, except the line of a refusal: the work was done or refused
abbrev pub IsGivenBy : Result (Unit {0}) RunEnd → Type 0
IsGivenBy (Ok t) = Unit {0}
IsGivenBy (Err (Refused refusal)) = Unit {0}
IsGivenBy (Err Fault) = ⊥
IsGivenBy (Err RemoteFault) = ⊥
IsGivenBy (Err NoMemory) = ⊥

-- The end of a command with this result. Done or refused, the whole answer was given, except the
-- line of a refusal. If the remotes failed or memory ran out, each crash leaves the state after the
-- acknowledged operations and no others. If the input failed, nothing changed.
abbrev pub Closed : Holdings → Answer → Result (Unit {0}) CommandEnd → View → View → Type 0
Closed held a (Ok t) u w = (a.refusal ≡ None) × Finishes held a u w
Closed held a (Err (command.Refused refusal)) u w =
    (a.refusal ≡ Some refusal) × Finishes held a u w
Closed held a (Err command.Fault) u w = Unit {0}
Closed held a (Err command.RemoteFault) u w = Stands a u w
Closed held a (Err command.InputFault) u w = w ≡ u
Closed held a (Err command.NoMemory) u w = Stands a u w

-- The whole answer was given, except the line of a refusal: the command was done or refused
abbrev pub IsClosedBy : Result (Unit {0}) CommandEnd → Type 0
IsClosedBy (Ok t) = Unit {0}
IsClosedBy (Err (command.Refused refusal)) = Unit {0}
IsClosedBy (Err command.Fault) = ⊥
IsClosedBy (Err command.RemoteFault) = ⊥
IsClosedBy (Err command.InputFault) = ⊥
IsClosedBy (Err command.NoMemory) = ⊥

-- If the command was done, it made the remote that it makes, if any
abbrev pub MadeWhere : Result (Unit {0}) CommandEnd → Command → Option (List ℕ) → View
    → View → Type 0
MadeWhere (Ok t) asked left u w = MadeBy asked left u w
MadeWhere (Err e) asked left u w = Unit {0}

-- ---- of each answer that counts

-- The contract at the return. `Ends` holds for each answer that counts (`Each`). If the whole
-- answer was given (`WasGiven`), there is an answer that counts (`One`), so `Ends` isn't said of
-- nothing. `Made` holds of the start and the return.
pub record Return (Each : View → (Holdings → Answer → Type 0) → Type 0) (One : View → Type 0)
    (Ends : Holdings → Answer → View → View → Type 0) (WasGiven : Type 0)
    (Made : View → View → Type 0) (u w : View) : Type 0 where
  pub ended : Each u (λ held a. Ends held a u w)
  pub given : WasGiven → One u
  pub made : Made u w

-- Nothing is promised of a remote
abbrev pub NoneMade : View → View → Type 0
NoneMade u w = Unit {0}

-- The contract of words at their return with this status. With status 0, the remote exists that
-- they make, if any.
abbrev pub WordsWereRun : List (List ℕ) → Told → ℕ → View → View → Type 0
WordsWereRun words t status u w =
    Return (EachOfWords words t) (OneOfWords words t) (λ held a x y. WasRun held a status x y)
    (IsAnswered status) (λ x y. status ≡ 0 → MadeFor (command_of words) t.left x y) u w

-- The contract of a command at its return with this status
abbrev pub CommandWasRun : Command → Told → ℕ → View → View → Type 0
CommandWasRun asked t status u w =
    Return (EachOfCommand asked t) (OneOfCommand asked t) (λ held a x y. WasRun held a status x y)
    (IsAnswered status) (λ x y. status ≡ 0 → MadeBy asked t.left x y) u w

-- The contract of a command at its end with this result, before the line of a refusal is printed
abbrev pub CommandHasEnded : Command → Told → Result (Unit {0}) CommandEnd → View → View → Type 0
CommandHasEnded asked t result u w =
    Return (EachOfCommand asked t) (OneOfCommand asked t) (λ held a x y. Closed held a result x y)
    (IsClosedBy result) (λ x y. MadeWhere result asked t.left x y) u w

-- The contract of changes at their end with this result
abbrev pub ChangesHaveEnded : Option Holdings → (Holdings → World → Answer)
    → Result (Unit {0}) RunEnd → View → View → Type 0
ChangesHaveEnded holds f result u w =
    Return (EachOfChanges holds f) (OneOfChanges f) (λ held a x y. Ended held a result x y)
    (IsGivenBy result) NoneMade u w

-- The contract of a look at its end with this result
abbrev pub LookHasEnded : (Result World Elements → Answer) → Result (Unit {0}) RunEnd → View → View
    → Type 0
LookHasEnded by result u w =
    Return (EachOfLook by) (OneOver by) (λ held a x y. Ended held a result x y) (IsGivenBy result)
    NoneMade u w

-- The contract of `fsck` at its end with this result
abbrev pub CheckHasEnded : Result (Unit {0}) RunEnd → View → View → Type 0
CheckHasEnded result u w =
    Return EachOfReport OneOfReport (λ held a x y. Ended held a result x y) (IsGivenBy result)
    NoneMade u w

-- ---- both

-- The contract of a command at each moment and at its end, by what is left of the input and what
-- the remotes hold
abbrev pub GoesOn : Command → Option (List ℕ) → Option Holdings → Result (Unit {0}) CommandEnd
    → Option Moments → Option Moments → Type 0
GoesOn asked left holds result a b = Goes a b (RunsCommand asked (told_start left holds a))
    (CommandHasEnded asked (told_start left holds a) result)
