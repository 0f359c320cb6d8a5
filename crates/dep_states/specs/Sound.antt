-- Sound images, and the paths on which the shown state depends.
use Rattle.std.specs.Prelude.{◌≡◌, ◌≢◌, ◌⊎◌, ◌≤◌, ◌++◌, ℕ, List, [], ◌∷◌, length, Bool, true, false, Option, Some, Result, Ok, Err}
use Rattle.fp_host.specs.Paths.{Elements}
use Rattle.fp_host.specs.View.{View}
use Rattle.fp_host.specs.Outcome.{Spot, gone, points, Disk, Leaves}
use Rattle.fp_keyfile.specs.declared.group.Group.{Group}
use Rattle.fp_keyfile.specs.declared.fault.KeyFault.{KeyFault}
use Rattle.fp_keyfile.specs.KeyFile.{file_of}
use Rattle.fp_name.specs.declared.kind.RefKind.{RefKind}
use Rattle.fp_name.specs.Refs.{Ref, is_ref}
use Rattle.fp_small.specs.Places.{repo, tmp}
use Rattle.fp_small.specs.declared.limits.TheConstants.{MOST_ELEMENTS}
use Rattle.fp_small.specs.declared.state.State.{State}
use Rattle.fp_small.specs.declared.state.RefRow.{RefRow}
use Rattle.fp_small.specs.declared.state.Previous.{Previous}
use Rattle.fl_meta.specs.declared.meta.MetaKind.{MetaKind}
use Rattle.fl_meta.specs.declared.meta.Meta.{Meta}
use Rattle.fp_base.specs.declared.meta_rule.MetaRule.{MetaRule}
use Rattle.fl_meta.specs.Metadata.{meta_of, meta_kind}
use Rattle.ost_model.specs.Objects.{object_path, store}
use Rattle.ost_model.specs.Order.{Place, In, order}
use Rattle.ost_model.specs.Standing.{deploy_name, Stands}
use Rattle.dep_states.specs.Names.{config, remotes_conf, pins_file, override_path, active, text_dir, commit_dir, deploy}
use Rattle.fp_name.specs.Grammar.{is_override}
use Rattle.dep_states.specs.Shown.{there, ref_seen, Shows, IsShown}
use Rattle.dep_states.specs.Zones.{IsFileOrGone, Allowed}

-- ---- valid metadata

-- Tests whether metadata was read
abbrev pub is_meta : Result Meta MetaRule → Bool
is_meta (Ok meta) = true
is_meta (Err rule) = false

-- Tests whether a key file was read that is valid metadata
abbrev pub is_meta_file : MetaKind → Result (List Group) KeyFault → Bool
is_meta_file kind (Ok file) = is_meta (meta_of kind file)
is_meta_file kind (Err fault) = false

-- Tests whether the bytes are valid metadata of an application or a runtime
unfoldable pub reads_as : RefKind → List ℕ → Bool
reads_as kind bytes = is_meta_file (meta_kind kind) (file_of bytes)

-- ---- the commits that an image keeps

-- The commit is this previous one
abbrev pub IsPrevious : Option Previous → List ℕ → Type 0
IsPrevious previous commit = (p : Previous) × (previous ≡ Some p) × (p.commit ≡ commit)

-- The row keeps the commit: it is the row's own or its previous one
abbrev pub IsKeptBy : RefRow → List ℕ → Type 0
IsKeptBy row commit = (row.commit ≡ commit) ⊎ IsPrevious row.previous commit

-- The image keeps the commit: it is the commit or the previous commit of a ref that the image shows
pub record Keeps (disk : Disk) (name : Ref) (commit : List ℕ) : Type 0 where
  pub row : RefRow
  pub shown : ref_seen disk name ≡ there row
  pub of_row : IsKeptBy row commit

-- The image is sound. `kinds`: each path has only what may be there; so each object matches its
-- digest. `commits`: each commit that the image keeps is checked out whole in its directory, and
-- its objects are in the store. `deploys`: the `deploy` of such a commit is a file or absent.
pub record Sound (disk : Disk) : Type 0 where
  pub kinds : (p : Elements) → Allowed p (disk p)
  pub commits : (name : Ref) (commit : List ℕ) → Keeps disk name commit
      → Stands (reads_as name.kind) repo disk commit (commit_dir name commit)
  pub deploys : (name : Ref) (commit : List ℕ) → Keeps disk name commit
      → IsFileOrGone (disk (deploy (commit_dir name commit)))

-- ---- views

-- Each crash leaves an image that shows the state and is sound
pub record Opens (s : State) (v : View) : Type 0 where
  pub shown : (disk : Disk) → Leaves v disk → Shows disk s
  pub sound : (disk : Disk) → Leaves v disk → Sound disk

-- Each crash leaves an image that shows a state and is sound
pub record IsSound (v : View) : Type 0 where
  pub shown : (disk : Disk) → Leaves v disk → IsShown disk
  pub sound : (disk : Disk) → Leaves v disk → Sound disk

-- ---- the fixed paths

-- The path is that of a file of layout 1
pub data IsOld (p : Elements) : Type 0 where
  is_remotes : p ≡ remotes_conf → IsOld p
  is_pins : p ≡ pins_file → IsOld p

-- The fixed paths of an image, on which its state and its soundness depend: those that are read for
-- the state, those of the commits that it keeps, and those of these commits' objects
pub data Fixed (disk : Disk) (p : Elements) : Type 0 where
  is_config : p ≡ config → Fixed disk p
  is_old : disk config ≡ gone → IsOld p → Fixed disk p
  is_active : (name : Ref) → is_ref name ≡ true → p ≡ active name → Fixed disk p
  is_deploy : (name : Ref) (text : List ℕ) → is_ref name ≡ true → disk (active name) ≡ points text
      → p ≡ deploy (text_dir name text) → Fixed disk p
  is_layer : (name : List ℕ) → is_override name ≡ true → p ≡ override_path name → Fixed disk p
  is_inside : (name : Ref) (commit : List ℕ) (rest : Elements) → Keeps disk name commit
      → rest ≢ deploy_name → p ≡ rest ++ commit_dir name commit → Fixed disk p
  is_object : (name : Ref) (commit : List ℕ) (place : Place) → Keeps disk name commit
      → In (order (store repo disk) commit) place
      → p ≡ object_path repo place.digest place.kind → Fixed disk p

-- The node may be at a path of this image that isn't fixed
pub record Permits (disk : Disk) (p : Elements) (spot : Spot) : Type 0 where
  pub allowed : Allowed p spot
  pub deploy : (name : Ref) (commit : List ℕ) → Keeps disk name commit
      → p ≡ deploy (commit_dir name commit) → IsFileOrGone spot

-- The frame `G` spares the view: for each image that a crash may leave, it allows nothing at a
-- fixed path, and elsewhere only what may be there
pub record Spares (v : View) (G : Elements → Spot → Type 0) : Type 0 where
  pub avoids : (disk : Disk) → Leaves v disk → (p : Elements) (spot : Spot) → Fixed disk p
      → G p spot → ⊥
  pub permits : (disk : Disk) → Leaves v disk → (p : Elements) (spot : Spot) → G p spot
      → Permits disk p spot

-- The largest frame that spares the view
abbrev pub Spared : View → Elements → Spot → Type 0
Spared v p spot = (disk : Disk) → Leaves v disk → (Fixed disk p → ⊥) × Permits disk p spot

-- Each crash leaves a `config`
abbrev pub HasConfig : View → Type 0
HasConfig v = (disk : Disk) → Leaves v disk → disk config ≡ gone → ⊥

-- A file of layout 1 is removed
abbrev pub OldGone : Elements → Spot → Type 0
OldGone p spot = IsOld p × (spot ≡ gone)

-- Any node below `repo/tmp`, at a path of at most 128 elements
pub record InTmp (p : Elements) (spot : Spot) : Type 0 where
  pub name : List ℕ
  pub rest : Elements
  pub is : p ≡ (rest ++ (name ∷ [])) ++ tmp
  pub short : length p ≤ MOST_ELEMENTS
