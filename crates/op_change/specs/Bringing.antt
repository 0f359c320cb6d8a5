-- Bringing a commit and deploying it, wholly or not at all.
use Rattle.std.specs.Prelude.{◌≡◌, ◌≢◌, ◌⊎◌, ℕ, List, true, Option, Some, Result, IsErrOf}
use Rattle.fp_base.specs.declared.object.ObjKind.{ObjKind}
use Rattle.fp_host.specs.Calls.{IsFile}
use Rattle.fp_host.specs.Outcome.{shows}
use Rattle.fp_host.specs.Paths.{Elements, Slot, absent, dir, link, IsAbove}
use Rattle.fp_host.specs.Remote.{Holdings}
use Rattle.fp_host.specs.View.{View}
use Rattle.fp_name.specs.Hex.{hex, is_digest}
use Rattle.fp_name.specs.Refs.{Ref}
use Rattle.fp_small.specs.Clear.{IsWithin}
use Rattle.fp_small.specs.Files.{KeepsFiles}
use Rattle.fp_small.specs.Places.{repo, tmp}
use Rattle.fp_small.specs.declared.state.State.{State}
use Rattle.ost_model.specs.Objects.{object_path}
use Rattle.ost_walk.specs.declared.pull_end.PullEnd.{PullEnd}
use Rattle.ost_walk.specs.declared.pull_end.PullEnd.TheVariants as ends
use Rattle.dep_states.specs.Frames.{KeptIn}
use Rattle.dep_states.specs.Links.{Links}
use Rattle.dep_states.specs.Names.{active, commit_dir, deploy}
use Rattle.dep_states.specs.Settled.{Settled}
use Rattle.dep_states.specs.Sound.{Opens}
use Rattle.op_change.specs.Deploys.{SameObjects}
use Rattle.op_change.specs.Readying.{store_config, a_head}

-- ---- the names

-- The path is an ancestor of the commit's directory, of an object or of the store's refs, or it is
-- `repo/tmp`
pub data IsFolderFor (name : Ref) (commit : List ℕ) (q : Elements) : Type 0 where
  above_commit : IsAbove q (commit_dir name commit) → IsFolderFor name commit q
  above_object : (d : List ℕ) (kind : ObjKind) → is_digest d ≡ true
      → IsAbove q (object_path repo d kind) → IsFolderFor name commit q
  above_head : IsAbove q a_head → IsFolderFor name commit q
  for_work : q ≡ tmp → IsFolderFor name commit q

-- Bringing the commit may give the name `q` this entry: temporary files in `repo/tmp`; the
-- directory of a commit that the state doesn't keep, its record `deploy`, and the link to it;
-- objects; the store's `config`; and directories above these
pub data BringsName (s : State) (name : Ref) (commit : List ℕ) (q : Elements) (e : Slot) : Type 0
  where
    some_work : IsAbove tmp q → BringsName s name commit q e
    in_folder : (KeptIn s name commit → ⊥) → IsWithin (commit_dir name commit) q
        → BringsName s name commit q e
    a_record : q ≡ deploy (commit_dir name commit) → (e ≡ absent) ⊎ IsFile e
        → BringsName s name commit q e
    at_active : q ≡ active name → e ≡ link (hex commit) → BringsName s name commit q e
    an_object : (d : List ℕ) (kind : ObjKind) → is_digest d ≡ true → q ≡ object_path repo d kind
        → BringsName s name commit q e
    a_config : q ≡ store_config → IsFile e → BringsName s name commit q e
    a_folder : IsFolderFor name commit q → e ≡ dir → BringsName s name commit q e

-- Bringing the commit changes no names but those of `BringsName`. The paths of objects, and the
-- store's `config`, keep their entries if they exist. Each file keeps its mode and its bytes, and
-- nothing is printed. A file that is new in a commit's directory is the record `deploy`, or was put
-- below the store's objects.
pub record ChangesFor (s : State) (name : Ref) (commit : List ℕ) (u w : View) : Type 0 where
  pub names : (q : Elements) → (w.names q ≡ u.names q) ⊎ BringsName s name commit q (w.names q)
  pub objects : (d : List ℕ) (kind : ObjKind) → is_digest d ≡ true
      → u.names (object_path repo d kind) ≢ absent
      → w.names (object_path repo d kind) ≡ u.names (object_path repo d kind)
  pub config_stays : u.names store_config ≢ absent
      → w.names store_config ≡ u.names store_config
  pub files : KeepsFiles u w
  pub links : Links u w
  pub printed : w.printed ≡ u.printed

-- ---- from a state to another

-- The remotes report their content
abbrev pub AreTold : Option Holdings → Type 0
AreTold holds = (held : Holdings) × (holds ≡ Some held)

-- A remote was at fault, or the commit was refused. If the remotes report their content and every
-- crash left the state `s` before, it still does, the store has the same objects, and if nothing
-- was left to tidy before, nothing is.
pub record WasLeft (s : State) (holds : Option Holdings) (u w : View) : Type 0 where
  pub opens : AreTold holds → Opens s u → Opens s w
  pub objects : AreTold holds → Opens s u → SameObjects u w
  pub settled : AreTold holds → Opens s u → Settled (shows u) → Settled (shows w)

-- A name that changed may have this entry after the commit was refused or a remote was at fault:
-- absent below `repo/tmp`; a directory at `repo` and `repo/tmp`; absent at and below the directory
-- of a commit that the state doesn't keep
pub data LeftName (s : State) (name : Ref) (commit : List ℕ) (q : Elements) (e : Slot) : Type 0
  where
    work_gone : IsAbove tmp q → e ≡ absent → LeftName s name commit q e
    work_folder : (q ≡ repo) ⊎ (q ≡ tmp) → e ≡ dir → LeftName s name commit q e
    unkept_gone : (KeptIn s name commit → ⊥) → IsWithin (commit_dir name commit) q → e ≡ absent
        → LeftName s name commit q e

-- The commit was refused. If the remotes report their content and every crash left the state `s`
-- before, no names changed but those of `LeftName`.
pub record LeavesNames (s : State) (name : Ref) (commit : List ℕ) (holds : Option Holdings)
    (u w : View) : Type 0 where
  pub names : AreTold holds → Opens s u → (q : Elements)
      → (w.names q ≡ u.names q) ⊎ LeftName s name commit q (w.names q)

-- The result is a fault of the host, and the remotes report their content
abbrev pub HostFaulted : {A : Type 0} → Option Holdings → Result A PullEnd → Type 0
HostFaulted holds result = AreTold holds × IsErrOf result ends.HostFault
