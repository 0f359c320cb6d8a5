-- Writing the objects of a built commit into a store.
use Rattle.std.specs.Prelude.{◌≡◌, ◌≢◌, ◌⊎◌, ◌≤◌, ℕ, List, length, true, Some, None}
use Rattle.std.specs.List.{AllByRecursion}
use Rattle.fp_host.specs.Paths.{Elements, Slot, absent, dir}
use Rattle.fp_host.specs.View.{View}
use Rattle.fp_host.specs.Outcome.{Spot, gone, folder, IsSettled, shows}
use Rattle.fp_host.specs.Frame.{Keeps}
use Rattle.fp_name.specs.Hex.{is_digest}
use Rattle.fp_base.specs.declared.object.ObjKind.{ObjKind}
use Rattle.fp_small.specs.Clear.{IsWithin}
use Rattle.fp_small.specs.Files.{KeepsFiles}
use Rattle.fp_small.specs.Folders.{IsFree}
use Rattle.fp_small.specs.Places.{repo, tmp}
use Rattle.fp_small.specs.Replace.{IsStaging}
use Rattle.fp_small.specs.Shares.{Shares}
use Rattle.ost_model.specs.declared.object.Object.{Object}
use Rattle.ost_model.specs.Objects.{Have, object_path, store}
use Rattle.ost_commit.specs.declared.built.BuiltObject.{BuiltObject}
use Rattle.ost_store.specs.ObjectNames.{IsObjectName, IsAboveObject}
use Rattle.ost_export.specs.Staging.{IsKeepableObject}
use Rattle.ost_export.specs.Placing.{IsTheObject}

-- The store at `root` is neither `repo/tmp` nor below it
pub record IsNoWork (root : Elements) : Type 0 where
  pub no_work : IsWithin tmp root → ⊥

-- The path is the first free name in `repo/tmp`, or below it
pub record IsWork (u : View) (q : Elements) : Type 0 where
  pub place : Elements
  pub staging : IsStaging u place
  pub within : IsWithin place q

-- Work may leave this node at the first free name in `repo/tmp` and below it: anything, but not
-- deeper than the objects of a store there
abbrev pub IsWorkAt : View → Elements → Spot → Type 0
IsWorkAt u q spot = IsWork u q × ((spot ≡ gone) ⊎ (length q ≤ 6))

-- The node is one of these objects, at its path in the store, where nothing was at the start
pub record IsNewObject (have : Have) (root : Elements) (u : View) (q : Elements)
    (spot : Spot) : Type 0 where
  pub digest : List ℕ
  pub kind : ObjKind
  pub object : Object
  pub digits : is_digest digest ≡ true
  pub is : have digest kind ≡ Some object
  pub at : q ≡ object_path root digest kind
  pub there : IsTheObject digest kind object spot
  pub free : u.names q ≡ absent

-- The path is that of one of these objects in the store, where nothing was at the start
pub record IsNewName (have : Have) (root : Elements) (u : View) (q : Elements) : Type 0 where
  pub digest : List ℕ
  pub kind : ObjKind
  pub digits : is_digest digest ≡ true
  pub is : have digest kind ≢ None
  pub at : q ≡ object_path root digest kind
  pub free : u.names q ≡ absent

-- The path is above an object, or is `repo` or `repo/tmp`
abbrev pub IsStoreFolder : Elements → Elements → Type 0
IsStoreFolder root q = IsAboveObject root q ⊎ ((q ≡ repo) ⊎ (q ≡ tmp))

-- Writing objects may leave this node at a path: work at the first free name of `repo/tmp`, new
-- objects, and directories
abbrev pub StoresAt : Have → Elements → View → Elements → Spot → Type 0
StoresAt have root u q spot =
    IsWorkAt u q spot ⊎ (IsNewObject have root u q spot ⊎ (IsStoreFolder root q × (spot ≡ folder)))

-- Writing objects may give a name this entry: work at the first free name of `repo/tmp`, new
-- objects, and directories
abbrev pub StoresName : Have → Elements → View → Elements → Slot → Type 0
StoresName have root u q e =
    IsWork u q ⊎ (IsNewName have root u q ⊎ (IsStoreFolder root q × (e ≡ dir)))

-- The objects may be written, and nothing else changes. Only new files get bytes.
pub record StoresObjects (have : Have) (root : Elements) (u w : View) : Type 0 where
  pub keeps : Keeps (StoresAt have root u) (StoresName have root u) (IsWork u) u w
  pub files : KeepsFiles u w

-- Nothing is at the object's path in the store, or this object
abbrev pub IsFitFor : Elements → List ℕ → ObjKind → Object → View → Type 0
IsFitFor root d kind object v =
    (v.names (object_path root d kind) ≡ absent) ⊎ (store root (shows v) d kind ≡ Some object)

-- Each object is in the store, if nothing else was at its path. Every crash leaves exactly the
-- present content, and nothing is left of the work. Each new file with bytes was put at the path of
-- an object.
pub record HasStored (have : Have) (root : Elements) (u w : View) : Type 0 where
  pub stored : (d : List ℕ) (kind : ObjKind) (object : Object) → have d kind ≡ Some object
      → IsFitFor root d kind object u → store root (shows w) d kind ≡ Some object
  pub digits : (d : List ℕ) (kind : ObjKind) (object : Object) → have d kind ≡ Some object
      → is_digest d ≡ true
  pub settled : IsSettled w
  pub place : Elements
  pub staging : IsStaging u place
  pub gone : w.names place ≡ absent
  pub shares : Shares (IsObjectName root) u w

-- The objects can be stored, and the directories above what is written are absent or directories
pub record CanStoreAll (root : Elements) (objects : List BuiltObject) (v : View) : Type 0 where
  pub keepable : AllByRecursion IsKeepableObject objects
  pub folders : (q : Elements) → IsStoreFolder root q → IsFree v q
