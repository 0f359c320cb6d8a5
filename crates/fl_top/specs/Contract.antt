-- The contract of `run`.
use Rattle.std.specs.Prelude.{◌≡◌, ◌≤◌, ℕ, List, Option}
use Rattle.fp_host.specs.Causes.{IsCaused}
use Rattle.fp_host.specs.Frame.{AtEnd, Unchanged}
use Rattle.fp_host.specs.Moments.{Rose}
use Rattle.fp_host.specs.Outcome.{shows}
use Rattle.fp_host.specs.declared.source.Source.{Ghosts}
use Rattle.ost_walk.specs.Ends.{Outside}
use Rattle.fl_words.specs.Forms.{command_of}
use Rattle.fl_change.specs.Performs.{AreToldFor}
use Rattle.fl_top.specs.Asked.{AsksFor, AsksRemotes}
use Rattle.fl_top.specs.Exercises.{IsRun}
use Rattle.fl_top.specs.Fsck.{HasReport}
use Rattle.fl_top.specs.Status.{IsStatus, IsAnswered, IsOfWords}
use Rattle.fl_top.specs.Taken.{WasTaken}
use Rattle.fl_top.specs.Told.{Checks, HasCauses}
use Rattle.fl_top.specs.Updated.{EndsInStep, WhereDone}

-- The visible part of a source: what is left of the input, if the source tells it, and its count of
-- faults
pub record Feed : Type 0 where
  pub left : Option (List ℕ)
  pub faults : ℕ

-- The visible part of a source, at a bound `I: Source`
abbrev pub feed_of : {I : Type 0} → Ghosts I → I → Feed
feed_of source input = record { left = source.left input; faults = source.faults input }

-- The contract of a run with the words `line`, which ended with the status `result`. `u` and `w`
-- are the host and the remotes before and after, `old` and `new` the input before and after.
pub record RunsCommandLine (line : List (List ℕ)) (result : ℕ) (u w : Outside)
    (old new : Feed) : Type 0 where
  -- The status is 0 to 6
  pub status : IsStatus result
  -- Words that are no command end with status 2, unless the host fails or memory runs out. A
  -- command never ends with 2, ends with 4 only if it may change the state, and with 5 only if it
  -- reads the input.
  pub words : IsOfWords (command_of line) result
  -- At each moment the pieces printed so far are the first ones of the answer. Over a sound start,
  -- a crash then leaves a sound installation with the state after a prefix of the answer's
  -- operations that includes all acknowledged ones. At the return with the status 0, 1 or 2, what
  -- was printed, the status and the state are the answer's. At the return with any status but 3,
  -- each crash leaves the state after the acknowledged operations and no others. An exercise
  -- answers over the remotes that are generated for it.
  pub runs : IsRun line old.left u.holdings result u.told w.told
  -- If the start gives status 3 no other cause (`HasCauses`), and the remotes tell what they hold
  -- where a commit may be brought, status 3 comes only if the host's count of faults rose
  pub fault_has_cause : IsCaused
      (AreToldFor (AsksFor (command_of line) old.left) u.holdings × (result ≡ 3)) u.told
      (HasCauses (command_of line)) u.host_faults w.host_faults
  -- If a command that checks each object of the store gave its whole answer, the store has a
  -- report, or no state is shown; so `runs` isn't said of nothing
  pub found : Checks (command_of line) → IsAnswered result
      → AtEnd (λ x y. HasReport (shows x)) u.told w.told
  -- If a command that changes the state was done with status 0 over a sound start, and the remotes
  -- tell what they hold where a commit may be brought, the files and symlinks at or below `exports`
  -- are exactly those that the applications of its state export, also after each crash. If the
  -- remotes tell what they hold, the image is settled; after an update of all refs, if it was
  -- settled before.
  pub exports : WhereDone (command_of line) old.left result u.holdings
      (AtEnd (EndsInStep (command_of line) old.left u.holdings) u.told w.told)
  -- The remotes stay as they are, and status 4 comes only if their count of faults rose. An
  -- exercise and a command that brings no commit don't ask them, and don't end with status 4.
  pub remotes : AsksRemotes (AsksFor (command_of line) old.left) (result ≡ 4) u.holdings w.holdings
      u.remote_faults w.remote_faults
  -- The input is read before anything is done: status 5 comes only if its count of faults rose, and
  -- then nothing changed
  pub input : result ≡ 5 → Rose old.faults new.faults × Unchanged u.told w.told
  -- A command that reads the input and gave its whole answer took all of an input of at most 64
  -- MiB; another command took nothing
  pub taken : WasTaken (command_of line) result old.left new.left
  -- The input's count of faults never falls
  pub later : old.faults ≤ new.faults
