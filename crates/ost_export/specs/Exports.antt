-- The changes and the promises of an export.
use Rattle.std.specs.Prelude.{◌≡◌, ◌⊎◌, ℕ, List, ◌∷◌, Some, None, codes}
use Rattle.std.specs.List.{AllByRecursion}
use Rattle.fp_host.specs.Paths.{Elements, Slot, absent, dir, IsAbove}
use Rattle.fp_host.specs.View.{View}
use Rattle.fp_host.specs.Calls.{IsFile, syncs, done}
use Rattle.fp_host.specs.Outcome.{Spot, folder, Disk, Leaves, IsSettled}
use Rattle.fp_host.specs.Frame.{Keeps}
use Rattle.fp_name.specs.Refs.{Ref}
use Rattle.fp_base.specs.declared.object.ObjKind.{ObjKind}
use Rattle.fp_small.specs.Files.{KeepsFiles}
use Rattle.fp_small.specs.Folders.{IsFree}
use Rattle.fp_small.specs.Replace.{IsFreeFile}
use Rattle.fp_small.specs.Shares.{Shares}
use Rattle.fp_small.specs.Move.{IsNew}
use Rattle.ost_model.specs.declared.limits.TheConstants.{STORE_CONFIG}
use Rattle.ost_model.specs.declared.object.Object.{Object}
use Rattle.ost_model.specs.Objects.{Have, store}
use Rattle.ost_model.specs.Order.{first_fault}
use Rattle.ost_commit.specs.declared.built.BuiltObject.{BuiltObject}
use Rattle.ost_refs.specs.Places.{place_path, remotes}
use Rattle.ost_refs.specs.Files.{ref_bytes}
use Rattle.ost_refs.specs.declared.place.RefPlace.TheVariants.{Head}
use Rattle.ost_store.specs.ObjectNames.{IsObjectName}
use Rattle.ost_export.specs.Staging.{IsKeepableObject}
use Rattle.ost_export.specs.Storing.{IsWork, IsWorkAt, IsNewObject, IsNewName, IsStoreFolder, IsFitFor}

-- ---- the files of the store

-- The path of `config` in the store at `root`
abbrev pub config_path : Elements → Elements
config_path root = codes "config" ∷ root

-- The content of `config`
abbrev pub config_text : List ℕ
config_text = STORE_CONFIG.now

-- The path of the ref's file in the store at `root`
abbrev pub ref_path : Elements → Ref → Elements
ref_path root r = place_path root (Head r)

-- A path in the directory of the remotes' refs
abbrev pub a_remote : Elements → Elements
a_remote root = codes "x" ∷ remotes root

-- ---- what may be at which path

-- The path is above an object or the ref's file, or is `repo` or `repo/tmp`
abbrev pub IsFolderAbove : Elements → Ref → Elements → Type 0
IsFolderAbove root r q = IsStoreFolder root q ⊎ IsAbove q (ref_path root r)

-- The path is above an object or the ref's file, or is `repo`, `repo/tmp` or the directory of the
-- remotes' refs
abbrev pub IsExportFolder : Elements → Ref → Elements → Type 0
IsExportFolder root r q = IsFolderAbove root r q ⊎ (q ≡ remotes root)

-- An export may leave this node at a path before it writes the ref: work at the first free name of
-- `repo/tmp`, new objects, `config`, and directories
abbrev pub FurnishesAt : Have → Elements → Ref → View → Elements → Spot → Type 0
FurnishesAt have root r u q spot = IsWorkAt u q spot
    ⊎ (IsNewObject have root u q spot
    ⊎ ((IsExportFolder root r q × (spot ≡ folder))
    ⊎ ((q ≡ config_path root) × IsNew config_text spot)))

-- An export may give a name this entry before it writes the ref: work at the first free name of
-- `repo/tmp`, new objects, `config`, and directories
abbrev pub FurnishesName : Have → Elements → Ref → View → Elements → Slot → Type 0
FurnishesName have root r u q e = IsWork u q
    ⊎ (IsNewName have root u q
    ⊎ ((IsExportFolder root r q × (e ≡ dir)) ⊎ ((q ≡ config_path root) × IsFile e)))

-- An export at each moment before it writes the ref. Only new files get bytes.
pub record Furnishes (have : Have) (root : Elements) (r : Ref) (u w : View) : Type 0 where
  pub keeps : Keeps (FurnishesAt have root r u) (FurnishesName have root r u) (IsWork u) u w
  pub files : KeepsFiles u w

-- An export may leave this node at a path: one of `FurnishesAt`, or the ref's new file
abbrev pub ExportsAt : Have → Elements → Ref → List ℕ → View → Elements → Spot → Type 0
ExportsAt have root r commit u q spot =
    FurnishesAt have root r u q spot ⊎ ((q ≡ ref_path root r) × IsNew (ref_bytes commit) spot)

-- An export may give a name this entry: one of `FurnishesName`, or the ref's file
abbrev pub ExportsName : Have → Elements → Ref → View → Elements → Slot → Type 0
ExportsName have root r u q e = FurnishesName have root r u q e ⊎ ((q ≡ ref_path root r) × IsFile e)

-- An export into the store at `root` at each moment. Only new files get bytes.
pub record Exports (have : Have) (root : Elements) (r : Ref) (commit : List ℕ)
    (u w : View) : Type 0 where
  pub keeps : Keeps (ExportsAt have root r commit u) (ExportsName have root r u) (IsWork u) u w
  pub files : KeepsFiles u w

-- An export at each moment, with the sync at its start, before which nothing changes
abbrev pub ExportsSynced : Have → Elements → Ref → List ℕ → View → View → Type 0
ExportsSynced have root r commit u w = (w ≡ u) ⊎ Exports have root r commit (done syncs u) w

-- An export at each moment before it writes the ref, with the sync at its start, before which
-- nothing changes
abbrev pub FurnishesSynced : Have → Elements → Ref → View → View → Type 0
FurnishesSynced have root r u w = (w ≡ u) ⊎ Furnishes have root r (done syncs u) w

-- The name keeps its entry, and each crash leaves at its path what some crash before would have
-- left
pub record IsSpared (q : Elements) (u w : View) : Type 0 where
  pub name : w.names q ≡ u.names q
  pub outcomes : (disk : Disk) → Leaves w disk
      → (before : Disk) × Leaves u before × (disk q ≡ before q)

-- ---- the result

-- No other object is at the paths of these objects in the store: nothing is at each path, or the
-- object itself
pub record AreFit (have : Have) (root : Elements) (v : View) : Type 0 where
  pub each : (d : List ℕ) (kind : ObjKind) (object : Object) → have d kind ≡ Some object
      → IsFitFor root d kind object v

-- The disk has a store in the mode bare-user-only with these objects, whose ref points to the
-- commit, and the commit has no fault
pub record IsOffered (have : Have) (root : Elements) (r : Ref) (commit : List ℕ)
    (disk : Disk) : Type 0 where
  pub config : IsNew config_text (disk (config_path root))
  pub ref : IsNew (ref_bytes commit) (disk (ref_path root r))
  pub stored : (d : List ℕ) (kind : ObjKind) (object : Object) → have d kind ≡ Some object
      → store root disk d kind ≡ Some object
  pub clean : first_fault (store root disk) commit ≡ None

-- The files `config` and of the ref are absent or files, and the directories above what an export
-- writes are absent or directories
pub record CanExport (root : Elements) (r : Ref) (v : View) : Type 0 where
  pub config : IsFreeFile (config_path root) v
  pub ref : IsFreeFile (ref_path root r) v
  pub folders : (q : Elements) → IsFolderAbove root r q → IsFree v q

-- The path is one at which an export makes a file that stays: that of an object, of `config` or of
-- the ref
abbrev pub IsExported : Elements → Ref → Elements → Type 0
IsExported root r q = IsObjectName root q ⊎ ((q ≡ config_path root) ⊎ (q ≡ ref_path root r))

-- The export succeeded: every crash leaves exactly the present content, and nothing is left of the
-- work. The ref is offered if no other object was at the paths of the commit's objects. Each new
-- file with bytes was put at the path of an object, of `config` or of the ref.
pub record WasExported (have : Have) (root : Elements) (r : Ref) (commit : List ℕ)
    (u w : View) : Type 0 where
  pub settled : IsSettled w
  pub offered : AreFit have root u → (disk : Disk) → Leaves w disk
      → IsOffered have root r commit disk
  pub remotes : CanExport root r u → u.names (remotes root) ≡ absent → w.names (remotes root) ≡ dir
  pub work : (q : Elements) → IsWork u q → w.names q ≡ absent
  pub shares : Shares (IsExported root r) u w

-- The export can be done, and the objects can be stored: the permission bits of each file are
-- within 0775 (octal), and the text of each symlink is valid
pub record CanExportAll (root : Elements) (r : Ref) (objects : List BuiltObject)
    (v : View) : Type 0 where
  pub keepable : AllByRecursion IsKeepableObject objects
  pub can : CanExport root r v
