-- Tidying of an installation.
use Rattle.std.specs.Prelude.{◌≡◌, ◌≢◌, ◌⊎◌, ◌++◌, ◌∷◌, [], ℕ, List, true, Some, Contains}
use Rattle.fp_host.specs.Paths.{Elements, Slot, absent, dir, IsAbove}
use Rattle.fp_host.specs.View.{View}
use Rattle.fp_host.specs.Calls.{IsFile}
use Rattle.fp_host.specs.Frame.{NoPath}
use Rattle.fp_host.specs.Outcome.{gone, Disk, IsSettled, shows}
use Rattle.fp_base.specs.declared.object.ObjKind.{ObjKind}
use Rattle.fp_name.specs.Grammar.{is_remote_name}
use Rattle.fp_name.specs.Hex.{hex, is_digest}
use Rattle.fp_name.specs.Refs.{Ref, is_ref}
use Rattle.fp_small.specs.Places.{repo, tmp}
use Rattle.fp_small.specs.Clear.{IsWithin}
use Rattle.fp_small.specs.Files.{KeepsFiles}
use Rattle.fp_small.specs.Shares.{Shares}
use Rattle.fp_small.specs.Replace.{folders_of}
use Rattle.fp_small.specs.declared.state.State.{State}
use Rattle.fp_small.specs.declared.state.RefRow.{RefRow}
use Rattle.ost_model.specs.Objects.{object_path, store}
use Rattle.ost_store.specs.Created.{Creates, NoObject}
use Rattle.dep_states.specs.Names.{config, remotes_conf, pins_file, overrides_folder, commit_dir, ref_file}
use Rattle.dep_states.specs.Shown.{there, ref_seen}
use Rattle.dep_states.specs.After.{row_at}
use Rattle.dep_states.specs.Frames.{KeptIn}
use Rattle.dep_states.specs.Lasting.{IsLasting, SharesAs}
use Rattle.dep_states.specs.Links.{Links}
use Rattle.dep_states.specs.Sound.{Keeps, Opens, IsOld}
use Rattle.dep_states.specs.Settled.{Settled, Used, HasBytes, HasOrigin}

-- The state has the ref from this remote
pub record IsFrom (s : State) (origin : List ℕ) (name : Ref) : Type 0 where
  pub row : RefRow
  pub has : row_at s name ≡ Some row
  pub is : row.origin ≡ origin

-- Tidying may give the name `q` this entry: anything below `repo/tmp`; a ref file for a ref of the
-- state, and directories above it; or absent, for the directory of a commit that the state doesn't
-- keep and all below it, for the files of layout 1, for other ref files, and for objects
pub data MayTidy (s : State) (q : Elements) (e : Slot) : Type 0 where
  some_work : IsAbove tmp q → MayTidy s q e
  commit_gone : (name : Ref) (commit : List ℕ) → is_ref name ≡ true → is_digest commit ≡ true
      → (KeptIn s name commit → ⊥)
      → IsWithin (commit_dir name commit) q → e ≡ absent → MayTidy s q e
  old_gone : IsOld q → e ≡ absent → MayTidy s q e
  ref_gone : (origin : List ℕ) (name : Ref) → is_remote_name origin ≡ true → is_ref name ≡ true
      → (IsFrom s origin name → ⊥)
      → q ≡ ref_file origin name → e ≡ absent → MayTidy s q e
  ref_written : (row : RefRow) → Contains s.refs row → q ≡ ref_file row.origin row.name → IsFile e
      → MayTidy s q e
  ref_folder : (row : RefRow) → Contains s.refs row
      → Contains (folders_of (ref_file row.origin row.name)) q → e ≡ dir → MayTidy s q e
  object_gone : (d : List ℕ) (kind : ObjKind) → is_digest d ≡ true → q ≡ object_path repo d kind
      → e ≡ absent → MayTidy s q e

-- Tidying at each moment. If every crash left the state `s` before, it still does, each object that
-- a kept commit uses is unchanged, and if nothing was left to tidy, no name changes and each new
-- file is empty. No names change but those of `MayTidy`, each file keeps its mode and its bytes,
-- and nothing is printed. A file that is new in a commit's directory is the record `deploy`, or was
-- put below the store's objects.
pub record Tidies (s : State) (u w : View) : Type 0 where
  pub opens : Opens s u → Opens s w
  pub names : (q : Elements) → (w.names q ≡ u.names q) ⊎ MayTidy s q (w.names q)
  pub idle : Opens s u → Settled (shows u) → (q : Elements) → w.names q ≡ u.names q
  pub unwritten : Opens s u → Settled (shows u) → Shares NoPath u w
  pub used : Opens s u → (d : List ℕ) (kind : ObjKind) → Used (shows u) d kind
      → store repo (shows w) d kind ≡ store repo (shows u) d kind
  pub files : KeepsFiles u w
  pub links : Links u w
  pub printed : w.printed ≡ u.printed

-- Tidying succeeded: every crash leaves exactly the present content, and nothing is left to tidy if
-- every crash left the state `s` before. Each new file that has bytes was put at a path where it
-- lasts, and no object was made.
pub record WasTidied (s : State) (u w : View) : Type 0 where
  pub settled : Opens s u → Settled (shows w)
  pub lasts : IsSettled w
  pub shares : SharesAs IsLasting u w
  pub creates : Creates repo NoObject u w

-- Nothing is left to tidy, except that temporary files may be left in `repo/tmp`
pub record SettledButWork (disk : Disk) : Type 0 where
  pub used : (d : List ℕ) (kind : ObjKind) → is_digest d ≡ true
      → disk (object_path repo d kind) ≢ gone → Used disk d kind
  pub dirs : (name : Ref) (commit : List ℕ) → is_ref name ≡ true → is_digest commit ≡ true
      → disk (commit_dir name commit) ≢ gone → Keeps disk name commit
  pub ref_files : (name : Ref) (row : RefRow) → ref_seen disk name ≡ there row
      → HasBytes (hex row.commit ++ 10 ∷ []) (disk (ref_file row.origin name))
  pub no_other : (origin : List ℕ) (name : Ref) → is_remote_name origin ≡ true → is_ref name ≡ true
      → disk (ref_file origin name) ≢ gone → HasOrigin disk name origin
  pub no_old : disk config ≢ gone → (disk remotes_conf ≡ gone) × (disk pins_file ≡ gone)

-- Nothing is left to tidy, except that temporary files may be left in `repo/tmp`, and that this ref
-- may lack its ref file
pub record SettledButRef (name : Ref) (disk : Disk) : Type 0 where
  pub used : (d : List ℕ) (kind : ObjKind) → is_digest d ≡ true
      → disk (object_path repo d kind) ≢ gone → Used disk d kind
  pub dirs : (other : Ref) (commit : List ℕ) → is_ref other ≡ true → is_digest commit ≡ true
      → disk (commit_dir other commit) ≢ gone → Keeps disk other commit
  pub ref_files : (other : Ref) (row : RefRow) → ref_seen disk other ≡ there row
      → (other ≡ name) ⊎ HasBytes (hex row.commit ++ 10 ∷ []) (disk (ref_file row.origin other))
  pub no_other : (origin : List ℕ) (other : Ref) → is_remote_name origin ≡ true
      → is_ref other ≡ true → disk (ref_file origin other) ≢ gone → HasOrigin disk other origin
  pub no_old : disk config ≢ gone → (disk remotes_conf ≡ gone) × (disk pins_file ≡ gone)

-- The path is one where an operation on the settings or on an override works: `config`, `overrides`
-- and below it, `repo`, or `repo/tmp` and below it
pub data IsSmallPlace (p : Elements) : Type 0 where
  is_config : p ≡ config → IsSmallPlace p
  is_layer : IsWithin overrides_folder p → IsSmallPlace p
  is_repo : p ≡ repo → IsSmallPlace p
  is_work : IsWithin tmp p → IsSmallPlace p
