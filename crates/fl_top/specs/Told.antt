-- The information that a command is given at its start, and the starts over which it answers.
use Rattle.std.specs.Prelude.{◌≡◌, ◌⊎◌, ℕ, true, false, List, Option, Some, None}
use Rattle.fp_host.specs.Remote.{Holdings}
use Rattle.fp_host.specs.View.{View}
use Rattle.fp_host.specs.Moments.{Moments}
use Rattle.fp_host.specs.Outcome.{shows}
use Rattle.fp_small.specs.declared.op.Op.{Op}
use Rattle.fp_name.specs.Refs.{Ref}
use Rattle.ost_commit.specs.declared.built.Built.{Built}
use Rattle.ost_description.specs.Commits.{IsDescribed}
use Rattle.ost_fsck.specs.declared.report.Report.{Report}
use Rattle.dep_states.specs.Sound.{IsSound}
use Rattle.dep_open.specs.Open.{NotShown}
use Rattle.fl_installed.specs.Deployed.{DeployedFiles, deployed_files}
use Rattle.fl_words.specs.declared.command.Command.{Command}
use Rattle.fl_words.specs.Words.{Work, work_of, making}
use Rattle.fl_make.specs.Making.{CanMake}
use Rattle.fl_change.specs.Answer.{Answer}
use Rattle.fl_change.specs.Performs.{AsksBy, AreToldFor}
use Rattle.fl_top.specs.Answer.{Given, IsAtOnce}
use Rattle.fl_top.specs.Fsck.{Finds, IsListable}
use Rattle.fl_top.specs.Status.{only_looks, changes_state, makes_remote, reads_input, checks_store}

-- Words that are no command, or a command that only looks
abbrev pub Looks : Option Command → Type 0
Looks None = Unit {0}
Looks (Some command) = only_looks command ≡ true

-- A command that may change the installation's state
abbrev pub IsChange : Option Command → Type 0
IsChange None = ⊥
IsChange (Some command) = changes_state command ≡ true

-- Words that are no command, or a command that doesn't change the state
abbrev pub KeepsState : Option Command → Type 0
KeepsState None = Unit {0}
KeepsState (Some command) = changes_state command ≡ false

-- Words that are no command, or a command that makes no remote
abbrev pub MakesNone : Option Command → Type 0
MakesNone None = Unit {0}
MakesNone (Some command) = makes_remote command ≡ false

-- A command that checks each object of the store
abbrev pub Checks : Option Command → Type 0
Checks None = ⊥
Checks (Some command) = checks_store command ≡ true

-- The information that the source, the remotes and the host give at the start: the bytes that are
-- left of the input, the content of the remotes, and the views of the host so far. Each may be
-- missing.
pub record Told : Type 0 where
  pub left : Option (List ℕ)
  pub holds : Option Holdings
  pub moments : Option Moments

-- The `Told` with these fields
abbrev pub told_start : Option (List ℕ) → Option Holdings → Option Moments → Told
told_start left holds moments = record { left = left; holds = holds; moments = moments }

-- The report is that of the store at the start, as far as the host tells its content
abbrev pub IsFoundAt : Option Moments → Report → Type 0
IsFoundAt moments report = (m : Moments) → moments ≡ Some m → Finds (shows m.now) report

-- The `metadata` files in the directories of deployed commits at the start; none if the host
-- doesn't tell its content
abbrev pub files_at : Option Moments → DeployedFiles
files_at None = λ name commit. None
files_at (Some m) = deployed_files (shows m.now)

-- Each commit of the tree that the bytes describe has this digest
pub record IsCommitOf (name : Ref) (bytes digest : List ℕ) : Type 0 where
  pub each : (built : Built) → IsDescribed bytes name built → built.commit ≡ digest

-- If the work makes a remote, the digest is that of the commit that the rest of the input describes
abbrev pub IsMadeAs : Work → Option (List ℕ) → List ℕ → Type 0
IsMadeAs (making remote name) left digest =
    (bytes : List ℕ) → left ≡ Some bytes → IsCommitOf name bytes digest
IsMadeAs _ left digest = Unit {0}

-- If the command makes a remote, the digest is that of the commit that the rest of the input
-- describes
abbrev pub IsMadeOf : Command → Option (List ℕ) → List ℕ → Type 0
IsMadeOf command left digest = IsMadeAs (work_of command) left digest

-- The command may be given this: all that is left of the input, if it reads the input; what the
-- remotes hold, if it may change the state; the deployed `metadata` files at the start, if it only
-- looks; the report of the store, if it checks the store; and the digest of the commit that the
-- input describes, if it makes a remote. Everything else is free.
pub record IsGivenTo (command : Command) (t : Told) (given : Given) : Type 0 where
  pub input : (reads_input command ≡ false) ⊎ (t.left ≡ Some given.input)
  pub held : (changes_state command ≡ false) ⊎ (t.holds ≡ Some given.held)
  pub files : (only_looks command ≡ false) ⊎ (given.files ≡ files_at t.moments)
  pub report : (checks_store command ≡ false) ⊎ IsFoundAt t.moments given.report
  pub commit : IsMadeOf command t.left given.commit

-- These words may be given this; anything, if they are no command
abbrev pub IsGiven : Told → Option Command → Given → Type 0
IsGiven t None given = Unit {0}
IsGiven t (Some command) given = IsGivenTo command t given

-- The condition on a start under which changes end with a fault only if a count of faults rose:
-- each crash leaves a sound installation, or the image shows no state
abbrev pub IsReady : View → Type 0
IsReady v = IsSound v ⊎ NotShown (shows v)

-- If one of these operations brings a commit, the remotes tell what they hold, and the installation
-- is ready
abbrev pub IsKnown : (Op → Type 0) → Option Holdings → View → Type 0
IsKnown May holds v = AreToldFor May holds × (AsksBy May → IsReady v)

-- The installation is ready, if the command may change the state
abbrev pub Serves : Option Command → View → Type 0
Serves command v = KeepsState command ⊎ IsReady v

-- The remote can be made at this start, if the work makes one
abbrev pub IsFreeAs : Work → View → Type 0
IsFreeAs (making remote name) v = CanMake remote name v
IsFreeAs _ v = Unit {0}

-- The remote can be made at this start, if the words make one
abbrev pub IsFreeFor : Option Command → View → Type 0
IsFreeFor None v = Unit {0}
IsFreeFor (Some command) v = IsFreeAs (work_of command) v

-- The condition on a start under which the command ends with a fault of the host only if the host's
-- count of faults rose: the installation is ready, if the command may change the state; no path of
-- the store is too long, if it checks the store; nothing is in the way of a remote that it makes.
pub record HasCauses (command : Option Command) (v : View) : Type 0 where
  pub serves : Serves command v
  pub listable : Checks command → IsListable v
  pub free : IsFreeFor command v

-- The command gives its answer over this start: the installation is ready, if the command may
-- change the state; or the words or the input are refused
abbrev pub MayAnswer : Option Command → View → Answer → Type 0
MayAnswer command v a = Serves command v ⊎ IsAtOnce a.refusal
