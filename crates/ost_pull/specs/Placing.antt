-- Moving objects from the work directory to their paths in the store.
use Rattle.std.specs.Prelude.{◌≡◌, ◌≢◌, ◌⊎◌, ◌≤◌, ◌+◌, ℕ, List, ◌∷◌, length, true, Option, Contains}
use Rattle.fp_host.specs.Paths.{Elements, absent, file, IsAbove}
use Rattle.fp_host.specs.View.{View}
use Rattle.fp_host.specs.Outcome.{shows, IsSettled}
use Rattle.fp_host.specs.Remote.{Holdings}
use Rattle.fp_name.specs.Hex.{is_digest}
use Rattle.fp_base.specs.declared.object.ObjKind.{ObjKind}
use Rattle.fp_host.specs.Frame.{NoPath}
use Rattle.fp_small.specs.Clear.{IsCleared, CanClear}
use Rattle.fp_small.specs.Files.{KeepsFiles}
use Rattle.fp_small.specs.Shares.{Shares}
use Rattle.fp_small.specs.declared.limits.TheConstants.{MOST_ELEMENTS}
use Rattle.ost_model.specs.Objects.{object_path}
use Rattle.ost_model.specs.Order.{In, IsOnce}
use Rattle.ost_model.specs.Stores.{objects_folder}
use Rattle.ost_store.specs.Place.{IsReadyAs, LeavesStore}
use Rattle.ost_store.specs.Stays.{Stays}
use Rattle.ost_store.specs.ObjectNames.{AreOpen}
use Rattle.ost_pull.specs.Takes.{AreTaken}
use Rattle.ost_pull.specs.Pulls.{Pulls}

-- The object is ready to be placed from its path in the directory `t`
pub record IsReadyIn (t : Elements) (o : List ℕ × ObjKind) (v : View) : Type 0 where
  pub digits : is_digest o.0 ≡ true
  pub ready : IsReadyAs o.0 o.1 (object_path t o.0 o.1) v

-- The objects are ready to be placed from their paths in the directory `t`, and each occurs once
pub record AreReady (t : Elements) (objects : List (List ℕ × ObjKind)) (v : View) : Type 0 where
  pub each : (o : List ℕ × ObjKind) → In objects o → IsReadyIn t o v
  pub once : IsOnce objects

-- Nothing is at the paths of the objects in the store at `root`
pub record AreLacking (root : Elements) (objects : List (List ℕ × ObjKind)) (v : View) : Type 0
  where
    pub free : (o : List ℕ × ObjKind) → In objects o → v.names (object_path root o.0 o.1) ≡ absent

-- The objects are ready to be placed, nothing is at their paths in the store, and the paths above
-- are absent or directories
pub record CanPlaceAll (root t : Elements) (objects : List (List ℕ × ObjKind)) (v : View) : Type 0
  where
    pub ready : AreReady t objects v
    pub lacking : AreLacking root objects v
    pub open_above : AreOpen root v

-- The node at the object's path in the directory `t` is now at its path in the store
abbrev pub CameTo : Elements → Elements → View → View → List ℕ × ObjKind → Type 0
CameTo root t u w o = shows w (object_path root o.0 o.1) ≡ shows u (object_path t o.0 o.1)

-- The entry of the object's path in the directory `t` was put at its path in the store
abbrev pub WasPut : Elements → Elements → View → View → List ℕ × ObjKind → Type 0
WasPut root t u w o = Contains w.stood (object_path root o.0 o.1, u.names (object_path t o.0 o.1))

-- Each file that was put below `objects` since `u` was put at the path of one of these objects, and
-- was at its path in the directory `t`
abbrev pub PutsOnly : Elements → Elements → List (List ℕ × ObjKind) → View → View → Type 0
PutsOnly root t objects u w =
    (q : Elements) (id : ℕ) → IsAbove (objects_folder root) q → Contains w.stood (q, file id)
    → Contains u.stood (q, file id)
    ⊎ ((o : List ℕ × ObjKind) × In objects o × (q ≡ object_path root o.0 o.1)
    × (u.names (object_path t o.0 o.1) ≡ file id))

-- All of these objects were placed, every other object's path stays as it was, and no file was
-- given bytes
pub record PlacesAll (root t : Elements) (objects : List (List ℕ × ObjKind)) (u w : View) : Type 0
  where
    pub came : (o : List ℕ × ObjKind) → In objects o → CameTo root t u w o
    pub put : (o : List ℕ × ObjKind) → In objects o → WasPut root t u w o
    pub only : PutsOnly root t objects u w
    pub files : KeepsFiles u w
    pub empty : Shares NoPath u w
    pub others : (d : List ℕ) (kind : ObjKind) → is_digest d ≡ true → (In objects (d, kind) → ⊥)
        → Stays (object_path root d kind) u w

-- All of these objects except those left were placed, every other object's path stays as it was,
-- and no file was given bytes
pub record PlacesSome (root t : Elements) (objects left : List (List ℕ × ObjKind))
    (u w : View) : Type 0 where
  pub among : (o : List ℕ × ObjKind) → In left o → In objects o
  pub came : (o : List ℕ × ObjKind) → In objects o
      → In left o ⊎ ((In left o → ⊥) × CameTo root t u w o)
  pub put : (o : List ℕ × ObjKind) → In objects o → In left o ⊎ WasPut root t u w o
  pub only : PutsOnly root t objects u w
  pub files : KeepsFiles u w
  pub empty : Shares NoPath u w
  pub still : (o : List ℕ × ObjKind) → In left o
      → Stays (object_path t o.0 o.1) u w × Stays (object_path root o.0 o.1) u w
  pub others : (d : List ℕ) (kind : ObjKind) → is_digest d ≡ true → (In objects (d, kind) → ⊥)
      → Stays (object_path root d kind) u w

-- If the first object is at its path, all the others are at theirs
pub record ComesLast (root : Elements) (first : List ℕ × ObjKind)
    (others : List (List ℕ × ObjKind)) (w : View) : Type 0 where
  pub last : w.names (object_path root first.0 first.1) ≢ absent
      → (o : List ℕ × ObjKind) → In others o → w.names (object_path root o.0 o.1) ≢ absent

-- The first of these objects is placed last, if they were ready and nothing was at their paths. The
-- first object of a commit's order is the commit.
abbrev pub FirstComesLast : Elements → Elements → List (List ℕ × ObjKind) → View → View → Type 0
FirstComesLast root t objects u w = AreReady t objects u → AreLacking root objects u
    → (first : List ℕ × ObjKind) (others : List (List ℕ × ObjKind)) → objects ≡ first ∷ others
    → ComesLast root first others w

-- The objects were placed, the directory `t` was cleared, and every crash leaves exactly the
-- present content
pub record WasStored (root t : Elements) (objects : List (List ℕ × ObjKind)) (u w : View) : Type 0
  where
    pub places : PlacesAll root t objects u w
    pub cleared : IsCleared t w
    pub settled : IsSettled w

-- Placing the objects is a part of a pull, if they were ready and nothing was at their paths
abbrev pub PullsReady : Elements → Elements → List (List ℕ × ObjKind) → View → View → Type 0
PullsReady root t objects u w = AreReady t objects u → AreLacking root objects u → Pulls root t u w

-- Storing the objects is a part of a pull, if they were kept and every crash left a store whose
-- objects match their names
abbrev pub PullsKept : Elements → Elements → List ℕ → Option Holdings → List (List ℕ × ObjKind)
    → View → View → Type 0
PullsKept root t url holds objects u w =
    AreTaken root t url holds objects u → LeavesStore root u → Pulls root t u w

-- The objects are kept, every crash leaves a store whose objects match their names, an object's
-- path in the directory `t` has at most 128 elements, `t` can be cleared, and the paths above the
-- store's objects are absent or directories
pub record CanStore (root t : Elements) (url : List ℕ) (holds : Option Holdings)
    (objects : List (List ℕ × ObjKind)) (v : View) : Type 0 where
  pub taken : AreTaken root t url holds objects v
  pub true_names : LeavesStore root v
  pub low : length t + 3 ≤ MOST_ELEMENTS
  pub clears : CanClear t v
  pub store_open : AreOpen root v
