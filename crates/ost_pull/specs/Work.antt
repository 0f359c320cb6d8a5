-- Keeping objects in a work directory, at the paths that they have in a store, until all of them
-- are checked.
use Rattle.std.specs.Prelude.{◌≡◌, ◌⊎◌, ℕ, List, [], ◌∷◌, ◌++◌, true, Option, Some, None}
use Rattle.fp_host.specs.Paths.{Elements, Slot, absent, dir, file}
use Rattle.fp_host.specs.View.{View}
use Rattle.fp_host.specs.Outcome.{Spot, folder}
use Rattle.fp_host.specs.Frame.{Keeps}
use Rattle.fp_host.specs.Remote.{Holdings}
use Rattle.fp_name.specs.Hex.{is_digest}
use Rattle.fp_base.specs.declared.object.ObjKind.{ObjKind}
use Rattle.fp_small.specs.Clear.{IsWithin, GoneWithin, AbsentWithin}
use Rattle.fp_small.specs.Files.{KeepsFiles}
use Rattle.fp_small.specs.Folders.{ancestors, AreFree}
use Rattle.ost_model.specs.declared.object.Object.{Object}
use Rattle.ost_model.specs.Objects.{object_path, name_fault}
use Rattle.ost_model.specs.Order.{In, IsOnce}
use Rattle.ost_store.specs.Gathers.{Gathers}
use Rattle.ost_store.specs.ObjectNames.{IsObjectName, IsAboveObject}
use Rattle.ost_store.specs.Stage.{IsHeld, IsKeepable}
use Rattle.ost_head.specs.Found.{RemoteHas}

-- Work may leave this node at a path: anything at the paths of objects in the directory `t`,
-- directories above these, and nothing at `t` and below it
abbrev pub WorksAt : Elements → Elements → Spot → Type 0
WorksAt t q spot = IsObjectName t q ⊎ ((IsAboveObject t q × (spot ≡ folder)) ⊎ GoneWithin t q spot)

-- Work may give a name this entry: anything at the paths of objects in the directory `t`,
-- directories above these, and none at `t` and below it
abbrev pub WorksName : Elements → Elements → Slot → Type 0
WorksName t q e = IsObjectName t q ⊎ ((IsAboveObject t q × (e ≡ dir)) ⊎ AbsentWithin t q e)

-- Work in the directory `t` at each moment. Only new files get bytes.
pub record Works (t : Elements) (u w : View) : Type 0 where
  pub keeps : Keeps (WorksAt t) (WorksName t) (IsWithin t) u w
  pub files : KeepsFiles u w

-- Each file that is new since `u` and has bytes is at the path of an object in the directory `t`,
-- and each file that was at one is still there
pub record Gathered (t : Elements) (u w : View) : Type 0 where
  pub new : Gathers (IsObjectName t) u w
  pub stay : (q : Elements) (id : ℕ) → IsObjectName t q → u.names q ≡ file id → w.names q ≡ file id

-- Each file that is new since `u` and has bytes is at the path of an object in the directory `t`,
-- and each file in that directory is new
pub record GathersAnew (t : Elements) (u w : View) : Type 0 where
  pub gathers : Gathers (IsObjectName t) u w
  pub new : (q : Elements) (id : ℕ) → IsWithin t q → w.names q ≡ file id → u.files id ≡ None

-- The directory `t` has the object of this digest and kind, which matches its digest and is the
-- remote's
pub record IsKept (t : Elements) (url : List ℕ) (holds : Option Holdings) (o : List ℕ × ObjKind)
    (v : View) : Type 0 where
  pub object : Object
  pub digits : is_digest o.0 ≡ true
  pub held : IsHeld (object_path t o.0 o.1) object v
  pub named : name_fault o.0 o.1 (Some object) ≡ None
  pub there : RemoteHas url holds o.0 o.1 object

-- The directory `t` has exactly these objects, and each occurs once in the list
pub record AreKept (t : Elements) (url : List ℕ) (holds : Option Holdings)
    (kept : List (List ℕ × ObjKind)) (v : View) : Type 0 where
  pub each : (o : List ℕ × ObjKind) → In kept o → IsKept t url holds o v
  pub once : IsOnce kept
  pub only : (d : List ℕ) (kind : ObjKind) → is_digest d ≡ true
      → (v.names (object_path t d kind) ≡ absent) ⊎ In kept (d, kind)

-- If the directory `t` had the objects of `before`, it has those of `after` now, among them the
-- object `o`. Each new file with bytes is at the path of an object in `t`.
pub record KeepsOne (t : Elements) (url : List ℕ) (holds : Option Holdings) (o : List ℕ × ObjKind)
    (before after : List (List ℕ × ObjKind)) (u w : View) : Type 0 where
  pub on : AreKept t url holds before u → AreKept t url holds after w × In after o
  pub gathers : Gathered t u w

-- The object was appended, or nothing was
abbrev pub Adds : List ℕ × ObjKind → List (List ℕ × ObjKind) → List (List ℕ × ObjKind) → Type 0
Adds o before after = (after ≡ before) ⊎ (after ≡ before ++ o ∷ [])

-- The object can be stored, and the paths above its path in the directory `t` are absent or
-- directories
pub record CanKeep (t : Elements) (d : List ℕ) (kind : ObjKind) (object : Object)
    (v : View) : Type 0 where
  pub keepable : IsKeepable object
  pub folders : AreFree (ancestors (object_path t d kind)) v
