-- Removing objects.
use Rattle.std.specs.Prelude.{◌≡◌, ◌⊎◌, ℕ, List, Bool, map, true, false, not, Contains}
use Rattle.std.specs.List.{filter}
use Rattle.fp_host.specs.Paths.{Elements, Slot, absent}
use Rattle.fp_host.specs.Reads.{is_ascending}
use Rattle.fp_host.specs.View.{View}
use Rattle.fp_host.specs.Outcome.{Spot, gone}
use Rattle.fp_name.specs.Hex.{is_digest}
use Rattle.fp_base.specs.declared.object.ObjKind.{ObjKind}
use Rattle.ost_store.specs.Place.{HasObject}
use Rattle.ost_prune.specs.Prune.{is_commit}
use Rattle.ost_store.specs.Names.{name_in, name_text}

-- The path is the name of one of the objects
pub record IsAmong (root : Elements) (objects : List (List ℕ × ObjKind)) (q : Elements) : Type 0
  where
    pub object : List ℕ × ObjKind
    pub among : Contains objects object
    pub name : q ≡ name_in root object

-- Holds if the path is the name of one of the objects, and a crash leaves nothing there
abbrev pub GoneAmong : Elements → List (List ℕ × ObjKind) → Elements → Spot → Type 0
GoneAmong root objects q spot = IsAmong root objects q × (spot ≡ gone)

-- Holds if the path is the name of one of the objects, and is absent
abbrev pub AbsentAmong : Elements → List (List ℕ × ObjKind) → Elements → Slot → Type 0
AbsentAmong root objects q e = IsAmong root objects q × (e ≡ absent)

-- All of the objects have been removed
pub record AreGone (root : Elements) (objects : List (List ℕ × ObjKind)) (v : View) : Type 0 where
  pub gone : (object : List ℕ × ObjKind) → Contains objects object
      → v.names (name_in root object) ≡ absent

-- Tests whether the object is not a commit
abbrev pub is_other : List ℕ × ObjKind → Bool
is_other object = not (is_commit object)

-- The commits among the objects
abbrev pub commits_of : List (List ℕ × ObjKind) → List (List ℕ × ObjKind)
commits_of objects = filter is_commit objects

-- The objects that are not commits
abbrev pub others_of : List (List ℕ × ObjKind) → List (List ℕ × ObjKind)
others_of objects = filter is_other objects

-- If all digests are valid, none of the objects has been removed except commits, or all of the
-- commits have been removed
pub record GoInOrder (root : Elements) (objects : List (List ℕ × ObjKind)) (u w : View) : Type 0
  where
    pub first : ((object : List ℕ × ObjKind) → Contains objects object → is_digest object.0 ≡ true)
        → ((object : List ℕ × ObjKind) → Contains objects object → is_commit object ≡ false
        → w.names (name_in root object) ≡ u.names (name_in root object))
        ⊎ ((object : List ℕ × ObjKind) → Contains objects object → is_commit object ≡ true
        → w.names (name_in root object) ≡ absent)

-- The objects can be removed: the store has each of them, and they are in ascending order of the
-- texts of their paths
pub record CanRemoveAll (root : Elements) (objects : List (List ℕ × ObjKind)) (v : View) : Type 0
  where
    pub digits : (object : List ℕ × ObjKind) → Contains objects object → is_digest object.0 ≡ true
    pub there : (object : List ℕ × ObjKind) → Contains objects object
        → HasObject root object.0 object.1 v
    pub ascending : is_ascending (map (name_text root) objects) ≡ true
