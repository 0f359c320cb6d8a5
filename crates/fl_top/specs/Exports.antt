-- Exports: their listing, the files and symlinks below `exports`, and the names that a command may
-- change for them.
use Rattle.std.specs.Prelude.{◌≡◌, ◌≢◌, ◌⊎◌, ℕ, Bool, true, false, List, Option, Some, None, Result, Ok, Err, flat_map}
use Rattle.fp_host.specs.Paths.{Elements, Slot, absent}
use Rattle.fp_host.specs.View.{View}
use Rattle.fp_host.specs.Outcome.{Disk, Leaves, shows}
use Rattle.fp_host.specs.Remote.{Holdings}
use Rattle.fp_small.specs.Files.{KeepsFiles}
use Rattle.fp_small.specs.Places.{repo}
use Rattle.fp_small.specs.declared.op.Op.{Op}
use Rattle.fp_small.specs.declared.state.State.{State}
use Rattle.ost_model.specs.Objects.{store}
use Rattle.dep_states.specs.Links.{Links}
use Rattle.dep_states.specs.Settled.{Settled}
use Rattle.dep_states.specs.Shown.{Shows}
use Rattle.dep_states.specs.Sound.{IsSound, Opens}
use Rattle.dep_tidy.specs.Tidy.{MayTidy}
use Rattle.fl_export.specs.Exported.{exported}
use Rattle.fl_export.specs.Placed.{ExportsAre}
use Rattle.fl_export.specs.Steps.{MayRefresh, Refreshes, WasRefreshed}
use Rattle.fl_export.specs.declared.rows.ExportRow.{ExportRow}
use Rattle.fp_name.specs.Refs.{Ref}
use Rattle.dep_states.specs.Names.{repo_config}
use Rattle.fl_lines.specs.Lines.{export_line, made_text}
use Rattle.fl_make.specs.Making.{MayMake}
use Rattle.fl_change.specs.Answer.{Answer, text_answer, IsIdle}
use Rattle.fl_change.specs.Changes.{MayHold, IsStill}
use Rattle.fl_change.specs.declared.end.RunEnd.{RunEnd}
use Rattle.fl_change.specs.declared.end.RunEnd.TheVariants as ends

-- ---- what is listed

-- The line of a row: its path below `exports`, and the ref that exports it
abbrev pub row_line : ExportRow → List ℕ
row_line row = export_line row.path row.name

-- The lines of rows, in their order
abbrev pub exports_text : List ExportRow → List ℕ
exports_text rows = flat_map row_line rows

-- ---- what is below `exports`

-- The image shows a state, and the files and symlinks at or below `exports` are exactly those that
-- the state's applications export
pub record HasExports (disk : Disk) : Type 0 where
  pub state : State
  pub shown : Shows disk state
  pub are : ExportsAre (exported (store repo disk) state) disk

-- Each crash leaves an image that shows a state and has exactly this state's exports
abbrev pub LeavesExports : View → Type 0
LeavesExports v = (disk : Disk) → Leaves v disk → HasExports disk

-- The installation is at rest: its image is settled and has exactly the exports of its state
pub record IsAtRest (v : View) : Type 0 where
  pub settled : Settled (shows v)
  pub exports : HasExports (shows v)

-- Each crash at `v` leaves the exports of the state. If the remotes tell what they hold, `v` is at
-- rest; for a command that may skip tidying (`Spares`), only if the image was settled at `u`.
pub record IsInStep (Spares : Type 0) (holds : Option Holdings) (u v : View) : Type 0 where
  pub exports : LeavesExports v
  pub rests : (held : Holdings) → holds ≡ Some held → (Spares → Settled (shows u)) → IsAtRest v

-- If the installation is at rest at `u`, and the answer has no operation and abandons no pull, then
-- no name changes and each new file is empty
abbrev pub StaysAtRest : Answer → View → View → Type 0
StaysAtRest a u w = IsAtRest u → IsIdle a → IsStill u w

-- A refresh of `exports` at each moment, for the state that is shown, if one is. In any case only
-- names of exports and of work change, each old file keeps its mode and bytes, nothing is printed,
-- and no file gets into a commit's directory.
pub record RefreshesShown (u w : View) : Type 0 where
  pub names : (q : Elements) → (w.names q ≡ u.names q) ⊎ MayRefresh q (w.names q)
  pub files : KeepsFiles u w
  pub links : Links u w
  pub printed : w.printed ≡ u.printed
  pub refreshes : (s : State) → Shows (shows u) s → Refreshes s u w

-- The end of a refresh of `exports` for the state that is shown, if one is
abbrev pub RefreshedShown : View → View → Type 0
RefreshedShown u w = (s : State) → Shows (shows u) s → WasRefreshed s u w

-- A refresh of `exports` at each moment, if an operation was done; else nothing changes
abbrev pub RefreshesWhere : Bool → View → View → Type 0
RefreshesWhere true u w = RefreshesShown u w
RefreshesWhere false u w = w ≡ u

-- The end of a refresh of `exports`, if an operation was done; else nothing changed
abbrev pub RefreshedWhere : Bool → View → View → Type 0
RefreshedWhere true u w = RefreshedShown u w
RefreshedWhere false u w = w ≡ u

-- The moments after changes that ended with this result: those of a refresh of `exports`, for the
-- state that the changes answered, or, if one was refused after an operation, for the state that is
-- shown. If one was refused before any operation, or the changes failed, nothing is done.
abbrev pub StepsAfter : Result State RunEnd → Bool → View → View → Type 0
StepsAfter (Ok s) acted u w = Refreshes s u w
StepsAfter (Err (ends.Refused refusal)) acted u w = RefreshesWhere acted u w
StepsAfter (Err ends.Fault) acted u w = w ≡ u
StepsAfter (Err ends.RemoteFault) acted u w = w ≡ u
StepsAfter (Err ends.NoMemory) acted u w = w ≡ u

-- The end after changes that ended with this result: `exports` was refreshed, for the state that
-- the changes answered, or, if one was refused after an operation, for the state that is shown. If
-- the changes failed, nothing is promised.
abbrev pub InStepAfter : Result State RunEnd → Bool → View → View → Type 0
InStepAfter (Ok s) acted u w = WasRefreshed s u w
InStepAfter (Err (ends.Refused refusal)) acted u w = RefreshedWhere acted u w
InStepAfter (Err ends.Fault) acted u w = Unit {0}
InStepAfter (Err ends.RemoteFault) acted u w = Unit {0}
InStepAfter (Err ends.NoMemory) acted u w = Unit {0}

-- The condition on the view after the changes under which a fault of the refresh comes only if the
-- host's count of faults rose. If the changes were done, each crash leaves the state that they
-- answered and a sound installation; if one was refused, a sound installation.
abbrev pub StandsAfter : Result State RunEnd → View → Type 0
StandsAfter (Ok s) v = Opens s v
StandsAfter (Err (ends.Refused refusal)) v = IsSound v
StandsAfter (Err ends.Fault) v = Unit {0}
StandsAfter (Err ends.RemoteFault) v = Unit {0}
StandsAfter (Err ends.NoMemory) v = Unit {0}

-- The host failed, or memory ran out
abbrev pub IsHostEnd : Result (Unit {0}) RunEnd → Type 0
IsHostEnd result = (result ≡ Err ends.Fault) ⊎ (result ≡ Err ends.NoMemory)

-- The result is that of the changes, unless they were done or refused and the host fails then, or
-- memory runs out
abbrev pub PassesOn : Result State RunEnd → Result (Unit {0}) RunEnd → Type 0
PassesOn (Ok s) result = (result ≡ Ok tt) ⊎ IsHostEnd result
PassesOn (Err (ends.Refused refusal)) result =
    (result ≡ Err (ends.Refused refusal)) ⊎ IsHostEnd result
PassesOn (Err ends.Fault) result = result ≡ Err ends.Fault
PassesOn (Err ends.RemoteFault) result = result ≡ Err ends.RemoteFault
PassesOn (Err ends.NoMemory) result = result ≡ Err ends.NoMemory

-- ---- the names that change

-- The entries that names may get: those of these operations and of tidying, those of a refresh of
-- `exports`, and those that `Make` allows
pub data MayCome (May : Op → Type 0) (Make : Elements → Slot → Type 0) (q : Elements)
    (e : Slot) : Type 0 where
  changed : MayHold May q e → MayCome May Make q e
  refreshed : MayRefresh q e → MayCome May Make q e
  made_by : Make q e → MayCome May Make q e

-- A command changed no more than it may. Each name has its old entry, or one that it may get. Each
-- old file keeps its mode and bytes: new content is in new files. A file that got into a commit's
-- directory is its `deploy` file or a file of the store. If the store's `config` existed, it is
-- unchanged.
pub record Alters (May : Op → Type 0) (Make : Elements → Slot → Type 0) (u w : View) : Type 0 where
  pub names : (q : Elements) → (w.names q ≡ u.names q) ⊎ MayCome May Make q (w.names q)
  pub config_stays : u.names repo_config ≢ absent → w.names repo_config ≡ u.names repo_config
  pub files : KeepsFiles u w
  pub links : Links u w

-- The answer is the line of a commit that was made, which only `export` prints
pub record IsMadeLine (a : Answer) : Type 0 where
  pub commit : List ℕ
  pub is : a ≡ text_answer (made_text commit)

-- The entries that names may get by a command without an operation: those of tidying; those of a
-- refresh of `exports`, if nothing is refused; and those of making a remote, if the answer is the
-- line of a commit
pub data MayRest (a : Answer) (s : State) (q : Elements) (e : Slot) : Type 0 where
  tidied_at : MayTidy s q e → MayRest a s q e
  refreshed_at : a.refusal ≡ None → MayRefresh q e → MayRest a s q e
  made_at : (remote : List ℕ) (r : Ref) → IsMadeLine a → MayMake remote r q e → MayRest a s q e

-- Each name has its old entry, or one that it may get by a command without an operation
pub record OnlyRests (a : Answer) (s : State) (u w : View) : Type 0 where
  pub names : (q : Elements) → (w.names q ≡ u.names q) ⊎ MayRest a s q (w.names q)
