-- Moving staged objects to their paths in the store.
use Rattle.std.specs.Prelude.{◌≡◌, ◌⊎◌, ℕ, List, true, Some, Contains}
use Rattle.fp_host.specs.Paths.{Elements, Slot, absent, dir}
use Rattle.fp_host.specs.View.{View}
use Rattle.fp_host.specs.Outcome.{Spot, folder, gone, shows, IsSettled}
use Rattle.fp_host.specs.Frame.{Keeps, NoPath}
use Rattle.fp_name.specs.Hex.{is_digest}
use Rattle.fp_base.specs.declared.object.ObjKind.{ObjKind}
use Rattle.fp_small.specs.Clear.{IsWithin, IsCleared, CanClear}
use Rattle.ost_model.specs.declared.object.Object.{Object}
use Rattle.ost_model.specs.Objects.{Have, object_path, object_at, Named as IsNamedAt}
use Rattle.ost_model.specs.Order.{In, IsOnce}
use Rattle.ost_store.specs.Place.{IsReadyAs}
use Rattle.ost_store.specs.Stays.{Stays}
use Rattle.ost_store.specs.ObjectNames.{AreOpen, IsAboveObject}
use Rattle.ost_export.specs.Staging.{Named, AreStaged}

-- The node is this object, and matches its digest and kind
pub record IsTheObject (d : List ℕ) (kind : ObjKind) (object : Object) (spot : Spot) : Type 0 where
  pub named : IsNamedAt d kind spot
  pub is : object_at kind spot ≡ Some object

-- The node is one of these objects, at its path in the store
pub record IsObjectOf (have : Have) (root : Elements) (objects : List Named) (q : Elements)
    (spot : Spot) : Type 0 where
  pub name : Named
  pub object : Object
  pub among : In objects name
  pub digits : is_digest name.0 ≡ true
  pub is : have name.0 name.1 ≡ Some object
  pub at : q ≡ object_path root name.0 name.1
  pub there : IsTheObject name.0 name.1 object spot

-- The path is that of one of these objects in the store
pub record IsNameOf (root : Elements) (objects : List Named) (q : Elements) : Type 0 where
  pub name : Named
  pub among : In objects name
  pub digits : is_digest name.0 ≡ true
  pub at : q ≡ object_path root name.0 name.1

-- Placing the objects may leave this node at a path: an object at its path, directories above that,
-- and nothing in the work directory `t`
abbrev pub PutsAt : Have → Elements → Elements → List Named → Elements → Spot → Type 0
PutsAt have root t objects q spot = (IsWithin t q × (spot ≡ gone))
    ⊎ (IsObjectOf have root objects q spot ⊎ (IsAboveObject root q × (spot ≡ folder)))

-- Placing the objects may give a name this entry: an object's path any, the names above it a
-- directory, and those in the work directory `t` none
abbrev pub PutsName : Elements → Elements → List Named → Elements → Slot → Type 0
PutsName root t objects q e =
    (IsWithin t q × (e ≡ absent)) ⊎ (IsNameOf root objects q ⊎ (IsAboveObject root q × (e ≡ dir)))

-- The objects may be placed, and nothing else changes. No file is given bytes.
pub record Puts (have : Have) (root t : Elements) (objects : List Named) (u w : View) : Type 0 where
  pub keeps : Keeps (PutsAt have root t objects) (PutsName root t objects) NoPath u w

-- The object is ready to be placed from its path in the directory `t`
pub record IsReadyIn (have : Have) (t : Elements) (o : Named) (v : View) : Type 0 where
  pub object : Object
  pub digits : is_digest o.0 ≡ true
  pub is : have o.0 o.1 ≡ Some object
  pub ready : IsReadyAs o.0 o.1 (object_path t o.0 o.1) v
  pub shown : object_at o.1 (shows v (object_path t o.0 o.1)) ≡ Some object

-- The objects are ready to be placed from their paths in the directory `t`, and each occurs once
pub record AreReady (have : Have) (t : Elements) (objects : List Named) (v : View) : Type 0 where
  pub each : (o : Named) → In objects o → IsReadyIn have t o v
  pub once : IsOnce objects

-- Nothing is at the paths of the objects in the store at `root`
pub record AreLacking (root : Elements) (objects : List Named) (v : View) : Type 0 where
  pub free : (o : Named) → In objects o → v.names (object_path root o.0 o.1) ≡ absent

-- The objects are ready to be placed, nothing is at their paths in the store, and the paths above
-- are absent or directories
pub record CanPlaceAll (have : Have) (root t : Elements) (objects : List Named) (v : View) : Type 0
  where
    pub ready : AreReady have t objects v
    pub lacking : AreLacking root objects v
    pub open_above : AreOpen root v

-- The node at the object's path in the directory `t` is now at its path in the store, where it was
-- put
pub record CameTo (root t : Elements) (u w : View) (o : Named) : Type 0 where
  pub shown : shows w (object_path root o.0 o.1) ≡ shows u (object_path t o.0 o.1)
  pub stood : Contains w.stood (object_path root o.0 o.1, u.names (object_path t o.0 o.1))

-- All of these objects were placed, and every other object's path stays as it was
pub record PlacesAll (root t : Elements) (objects : List Named) (u w : View) : Type 0 where
  pub came : (o : Named) → In objects o → CameTo root t u w o
  pub others : (d : List ℕ) (kind : ObjKind) → is_digest d ≡ true → (In objects (d, kind) → ⊥)
      → Stays (object_path root d kind) u w

-- All of these objects except those left were placed, and every other object's path stays as it was
pub record PlacesSome (root t : Elements) (objects left : List Named) (u w : View) : Type 0 where
  pub among : (o : Named) → In left o → In objects o
  pub came : (o : Named) → In objects o → In left o ⊎ ((In left o → ⊥) × CameTo root t u w o)
  pub still : (o : Named) → In left o → Stays (object_path t o.0 o.1) u w
      × Stays (object_path root o.0 o.1) u w
  pub others : (d : List ℕ) (kind : ObjKind) → is_digest d ≡ true → (In objects (d, kind) → ⊥)
      → Stays (object_path root d kind) u w

-- The objects were placed, the directory `t` was cleared, and every crash leaves exactly the
-- present content
pub record WasStored (root t : Elements) (objects : List Named) (u w : View) : Type 0 where
  pub places : PlacesAll root t objects u w
  pub cleared : IsCleared t w
  pub settled : IsSettled w

-- If the objects are ready, they may be placed, and nothing else changes
abbrev pub PutsReady : Have → Elements → Elements → List Named → View → View → Type 0
PutsReady have root t objects u w = AreReady have t objects u → Puts have root t objects u w

-- If the objects are staged, they may be placed, and nothing else changes
abbrev pub PutsStaged : Have → Elements → Elements → List Named → View → View → Type 0
PutsStaged have root t objects u w = AreStaged have t objects u → Puts have root t objects u w

-- The objects are staged, nothing is at their paths in the store, the paths above are absent or
-- directories, and the directory `t` can be cleared
pub record CanStore (have : Have) (root t : Elements) (objects : List Named) (v : View) : Type 0
  where
    pub staged : AreStaged have t objects v
    pub lacking : AreLacking root objects v
    pub clears : CanClear t v
    pub store_open : AreOpen root v
