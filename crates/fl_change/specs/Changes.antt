-- The names that a command may change, and the files.
use Rattle.std.specs.Prelude.{◌≡◌, ◌≢◌, ◌⊎◌, ℕ, Some}
use Rattle.fp_host.specs.Paths.{Elements, Slot, absent, file}
use Rattle.fp_host.specs.View.{View}
use Rattle.fp_host.specs.Frame.{NoPath}
use Rattle.fp_small.specs.Files.{KeepsFiles}
use Rattle.fp_small.specs.Shares.{Shares}
use Rattle.fp_small.specs.Config.{config_text}
use Rattle.fp_small.specs.declared.limits.TheConstants.{FILE_MODE}
use Rattle.fp_small.specs.declared.state.State.{State}
use Rattle.dep_states.specs.Links.{Links}
use Rattle.dep_states.specs.Names.{config, repo_config}
use Rattle.dep_states.specs.Shown.{settings_of}
use Rattle.dep_tidy.specs.Tidy.{MayTidy}
use Rattle.op_change.specs.Applied.{MayChange}
use Rattle.fp_small.specs.declared.op.Op.{Op}

-- The name `q` may get this entry: by one of the operations of `May` on some state, or by tidying
-- some state
pub data MayHold (May : Op → Type 0) (q : Elements) (e : Slot) : Type 0 where
  operated : (s : State) (op : Op) (v : View) → May op → MayChange s op v q e → MayHold May q e
  tidied : (s : State) → MayTidy s q e → MayHold May q e

-- Each name keeps its entry, or has one that `MayHold` allows. Each file keeps its mode and its
-- bytes, so new content is in new files. A file that is new in a commit's directory is the record
-- `deploy`, or was put below the store's objects. The store's `config` keeps its entry if it
-- exists.
pub record Changes (May : Op → Type 0) (u w : View) : Type 0 where
  pub names : (q : Elements) → (w.names q ≡ u.names q) ⊎ MayHold May q (w.names q)
  pub config_stays : u.names repo_config ≢ absent → w.names repo_config ≡ u.names repo_config
  pub files : KeepsFiles u w
  pub links : Links u w

-- Names change only by tidying an installation of the state `s`
pub record OnlyTidied (s : State) (u w : View) : Type 0 where
  pub names : (q : Elements) → (w.names q ≡ u.names q) ⊎ MayTidy s q (w.names q)

-- No name changes, and each new file is empty
pub record IsStill (u w : View) : Type 0 where
  pub names : (q : Elements) → w.names q ≡ u.names q
  pub unwritten : Shares NoPath u w

-- Nothing changes but what is printed. Names and files stay, as does what a crash may leave of
-- them; no file is created, and nothing is put at a name.
pub record IsUntouched (u w : View) : Type 0 where
  pub names : (q : Elements) → w.names q ≡ u.names q
  pub earlier : (q : Elements) → w.earlier q ≡ u.earlier q
  pub files : (id : ℕ) → w.files id ≡ u.files id
  pub dirty : (id : ℕ) → w.dirty id ≡ u.dirty id
  pub stood : w.stood ≡ u.stood

-- `config` is a file with exactly the text of this state's settings, and the permission bits 0644
pub record HasText (s : State) (v : View) : Type 0 where
  pub id : ℕ
  pub name : v.names config ≡ file id
  pub row : v.files id ≡ Some (record { mode = FILE_MODE; bytes = config_text (settings_of s) })
