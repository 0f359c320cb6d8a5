-- Staging objects in a work directory, at the paths that they have in a store.
use Rattle.std.specs.Prelude.{◌≡◌, ◌⊎◌, ℕ, List, ◌∷◌, true, false, Bool, Some, None}
use Rattle.std.specs.List.{AllByRecursion}
use Rattle.fp_host.specs.Paths.{Elements, Slot, absent, dir}
use Rattle.fp_host.specs.View.{View}
use Rattle.fp_host.specs.Outcome.{Spot, folder}
use Rattle.fp_host.specs.Frame.{Keeps}
use Rattle.fp_name.specs.Hex.{is_digest}
use Rattle.fp_base.specs.declared.object.ObjKind.{ObjKind}
use Rattle.fp_small.specs.Clear.{IsWithin, IsCleared}
use Rattle.fp_small.specs.Files.{KeepsFiles}
use Rattle.fp_small.specs.Places.{tmp, new_name}
use Rattle.ost_model.specs.declared.object.Object.{Object}
use Rattle.ost_model.specs.Objects.{Have, object_path, name_fault}
use Rattle.ost_model.specs.Order.{In, IsOnce}
use Rattle.ost_store.specs.Gathers.{Gathers}
use Rattle.ost_store.specs.ObjectNames.{IsObjectName, IsAboveObject, AreOpen}
use Rattle.ost_store.specs.Stage.{IsHeld, IsKeepable}
use Rattle.ost_commit.specs.declared.built.BuiltObject.{BuiltObject}
use Rattle.ost_commit.specs.Objects.{IsNamed, AreApart}

-- The digest and the kind of an object
abbrev pub Named : Type 0
Named = List ℕ × ObjKind

-- The digest and the kind of a built object
abbrev pub name_of : BuiltObject → Named
name_of o = (o.digest, o.kind)

-- The work directory `t` is one of `repo/tmp/new0`, `repo/tmp/new1` and so on, and the store at
-- `root` is neither `repo/tmp` nor below it
pub record IsApart (root t : Elements) : Type 0 where
  pub number : ℕ
  pub is : t ≡ new_name number ∷ tmp
  pub no_work : IsWithin tmp root → ⊥

-- Staging may leave this node at a path: anything at the paths of objects in the directory `t`, and
-- directories above these
abbrev pub WorksAt : Elements → Elements → Spot → Type 0
WorksAt t q spot = IsObjectName t q ⊎ (IsAboveObject t q × (spot ≡ folder))

-- Staging may give a name this entry: anything at the paths of objects in the directory `t`, and
-- directories above these
abbrev pub WorksName : Elements → Elements → Slot → Type 0
WorksName t q e = IsObjectName t q ⊎ (IsAboveObject t q × (e ≡ dir))

-- Staging in the directory `t` at each moment. Only new files get bytes.
pub record Works (t : Elements) (u w : View) : Type 0 where
  pub keeps : Keeps (WorksAt t) (WorksName t) (IsWithin t) u w
  pub files : KeepsFiles u w

-- The object of this digest and kind is at its path in the directory `t`, and matches its digest
pub record IsStagedObject (have : Have) (t : Elements) (o : Named) (v : View) : Type 0 where
  pub object : Object
  pub digits : is_digest o.0 ≡ true
  pub is : have o.0 o.1 ≡ Some object
  pub named : name_fault o.0 o.1 (Some object) ≡ None
  pub held : IsHeld (object_path t o.0 o.1) object v

-- The directory `t` has these objects, each once, and no others
pub record AreStaged (have : Have) (t : Elements) (staged : List Named) (v : View) : Type 0 where
  pub each : (o : Named) → In staged o → IsStagedObject have t o v
  pub once : IsOnce staged
  pub only : (d : List ℕ) (kind : ObjKind) → is_digest d ≡ true
      → (v.names (object_path t d kind) ≡ absent) ⊎ In staged (d, kind)

-- The flag is whether nothing is at the path
abbrev pub IsAbsentSaid : Elements → View → Bool → Type 0
IsAbsentSaid p v true = v.names p ≡ absent
IsAbsentSaid p v false = v.names p ≡ absent → ⊥

-- The flag is whether nothing is at the object's path in the store, nor in the work directory
abbrev pub IsLacking : Elements → Elements → Named → View → Bool → Type 0
IsLacking root t o v true =
    (v.names (object_path root o.0 o.1) ≡ absent) × (v.names (object_path t o.0 o.1) ≡ absent)
IsLacking root t o v false =
    v.names (object_path root o.0 o.1) ≡ absent → v.names (object_path t o.0 o.1) ≡ absent → ⊥

-- The object was staged if the store lacked it and it wasn't staged before. If the new files with
-- bytes were at the paths of objects in `t`, they still are.
pub record StagesOne (have : Have) (root t : Elements) (o : Named) (before after : List Named)
    (v w : View) : Type 0 where
  pub on : AreStaged have t before v → AreStaged have t after w
  pub more : (p : Named) → In before p → In after p
  pub new : (p : Named) → In after p → In before p
      ⊎ ((p ≡ o) × (v.names (object_path root o.0 o.1) ≡ absent))
  pub waits : AreStaged have t before v → v.names (object_path root o.0 o.1) ≡ absent → In after o
  pub gathers : (u : View) → Gathers (IsObjectName t) u v → Gathers (IsObjectName t) u w

-- The store lacked each staged object, and the new files with bytes are at the paths of objects in
-- `t`
pub record HasStaged (have : Have) (root t : Elements) (staged : List Named) (u w : View) : Type 0
  where
    pub are : AreStaged have t staged w
    pub new : (o : Named) → In staged o → u.names (object_path root o.0 o.1) ≡ absent
    pub gathers : Gathers (IsObjectName t) u w

-- The object is staged, if the store lacked it
pub record IsCovered (root : Elements) (staged : List Named) (u : View) (o : BuiltObject) : Type 0
  where
    pub digits : is_digest o.digest ≡ true
    pub waits : u.names (object_path root o.digest o.kind) ≡ absent → In staged (name_of o)

-- If nothing was at the directory `t`, those of these objects that the store lacked were staged
abbrev pub StagesSome : Have → Elements → Elements → List BuiltObject → List Named → View
    → View → Type 0
StagesSome have root t objects staged u w = IsCleared t u
    → HasStaged have root t staged u w × AllByRecursion (IsCovered root staged u) objects

-- The object is that of its digest and kind in `have`, and matches its digest
pub record IsIn (have : Have) (o : BuiltObject) : Type 0 where
  pub is : have o.digest o.kind ≡ Some o.object
  pub named : name_fault o.digest o.kind (Some o.object) ≡ None

-- The object can be stored, and the paths above those of objects in the directory `t` are absent or
-- directories
pub record CanStageOne (t : Elements) (object : Object) (v : View) : Type 0 where
  pub keepable : IsKeepable object
  pub open_above : AreOpen t v

-- The permission bits of a file are within 0775 (octal), and the text of a symlink is valid
abbrev pub IsKeepableObject : BuiltObject → Type 0
IsKeepableObject o = IsKeepable o.object

-- The objects can be stored, and the paths above those of objects in the directory `t` are absent
-- or directories
pub record CanStageAll (t : Elements) (objects : List BuiltObject) (v : View) : Type 0 where
  pub keepable : AllByRecursion IsKeepableObject objects
  pub open_above : AreOpen t v

-- The objects match their digests, and no two have the same digest and kind
pub record AreWhole (objects : List BuiltObject) : Type 0 where
  pub named : AllByRecursion IsNamed objects
  pub apart : AreApart objects
