-- Unused objects, and pruning a store. An object is unused if no commit of `keep` uses it.
use Rattle.std.specs.Prelude.{◌≡◌, ◌⊎◌, ◌↔◌, ℕ, List, Bool, length, map, true, false, is_some, None, Contains}
use Rattle.fp_host.specs.Paths.{Elements, Slot, absent}
use Rattle.fp_host.specs.View.{View}
use Rattle.fp_host.specs.Outcome.{Disk, Leaves, Spot, gone, shows}
use Rattle.fp_host.specs.Frame.{Keeps, NoPath}
use Rattle.fp_host.specs.Reads.{is_ascending}
use Rattle.fp_name.specs.Hex.{is_digest}
use Rattle.fp_base.specs.declared.object.ObjKind.{ObjKind}
use Rattle.fp_base.specs.declared.object.ObjKind.TheVariants as kinds
use Rattle.ost_model.specs.Objects.{store}
use Rattle.ost_model.specs.Used.{IsUsed}
use Rattle.ost_store.specs.Names.{name_in, name_text}

-- Holds if the store at `root` has the object
abbrev pub IsStored : Elements → View → List ℕ × ObjKind → Type 0
IsStored root v object = is_some (store root (shows v) object.0 object.1) ≡ true

-- Holds if each crash leaves at the path what a crash of the previous view could have left there
abbrev pub LeavesAsBefore : View → View → Elements → Type 0
LeavesAsBefore u w q = (disk : Disk) → Leaves w disk
    → (before : Disk) × Leaves u before × (disk q ≡ before q)

-- The store has the object, and no commit of `keep` uses it
pub record IsUnused (root : Elements) (keep : List (List ℕ)) (v : View)
    (object : List ℕ × ObjKind) : Type 0 where
  pub digits : is_digest object.0 ≡ true
  pub there : IsStored root v object
  pub unused : IsUsed (store root (shows v)) keep object → ⊥

-- The path is the name of an unused object
pub record IsUnusedName (root : Elements) (keep : List (List ℕ)) (v : View) (q : Elements) : Type 0
  where
    pub object : List ℕ × ObjKind
    pub unused : IsUnused root keep v object
    pub name : q ≡ name_in root object

-- Holds if the path is the name of an unused object, and a crash leaves nothing there
abbrev pub PrunesAt : Elements → List (List ℕ) → View → Elements → Spot → Type 0
PrunesAt root keep u q spot = IsUnusedName root keep u q × (spot ≡ gone)

-- Holds if the path is the name of an unused object, and is absent
abbrev pub PrunesName : Elements → List (List ℕ) → View → Elements → Slot → Type 0
PrunesName root keep u q e = IsUnusedName root keep u q × (e ≡ absent)

-- The names of unused objects may be removed, and nothing else changes
pub record Prunes (root : Elements) (keep : List (List ℕ)) (u w : View) : Type 0 where
  pub keeps : Keeps (PrunesAt root keep u) (PrunesName root keep u) NoPath u w

-- Tests whether the kind is that of commits
abbrev pub is_commit_kind : ObjKind → Bool
is_commit_kind kinds.Commit = true
is_commit_kind kinds.DirTree = false
is_commit_kind kinds.DirMeta = false
is_commit_kind kinds.File = false

-- Tests whether the object is a commit
abbrev pub is_commit : List ℕ × ObjKind → Bool
is_commit object = is_commit_kind object.1

-- No unused object has been removed except commits, or all unused commits have been removed
pub record CommitsFirst (root : Elements) (keep : List (List ℕ)) (u w : View) : Type 0 where
  pub first : ((object : List ℕ × ObjKind) → IsUnused root keep u object → is_commit object ≡ false
      → w.names (name_in root object) ≡ u.names (name_in root object))
      ⊎ ((object : List ℕ × ObjKind) → IsUnused root keep u object → is_commit object ≡ true
      → w.names (name_in root object) ≡ absent)

-- These are the unused objects, each once, in ascending order of the texts of their paths
pub record ListsUnused (root : Elements) (keep : List (List ℕ)) (v : View)
    (objects : List (List ℕ × ObjKind)) : Type 0 where
  pub each : (object : List ℕ × ObjKind) → Contains objects object ↔ IsUnused root keep v object
  pub ascending : is_ascending (map (name_text root) objects) ≡ true

-- This is the number of unused objects that the store had, and they have been removed
pub record WasPruned (root : Elements) (keep : List (List ℕ)) (number : ℕ) (u w : View) : Type 0
  where
    pub objects : List (List ℕ × ObjKind)
    pub all : ListsUnused root keep u objects
    pub count : number ≡ length objects
    pub gone : (object : List ℕ × ObjKind) → IsUnused root keep u object
        → w.names (name_in root object) ≡ absent
