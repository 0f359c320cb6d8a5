-- Finding unused objects in the directories of a store.
use Rattle.std.specs.Prelude.{◌≡◌, ◌⊎◌, ◌↔◌, ◌++◌, ℕ, List, map, take, true, Option, Some, None, Contains}
use Rattle.fp_host.specs.Paths.{Elements, path_text}
use Rattle.fp_host.specs.Reads.{is_ascending}
use Rattle.fp_host.specs.View.{View}
use Rattle.fp_name.specs.Hex.{hex, is_digest}
use Rattle.fp_small.specs.Order.{comes_before}
use Rattle.fp_base.specs.declared.object.ObjKind.{ObjKind}
use Rattle.ost_prune.specs.Prune.{IsUnused}
use Rattle.ost_store.specs.Names.{name_in, name_text}

-- Holds if the path is the name of this object, which is unused; or there is no object, and the
-- path isn't the name of an unused one
abbrev pub IsUnusedAt : Elements → List (List ℕ) → Elements → View
    → Option (List ℕ × ObjKind) → Type 0
IsUnusedAt root keep path v (Some object) =
    IsUnused root keep v object × (path ≡ name_in root object)
IsUnusedAt root keep path v None =
    (object : List ℕ × ObjKind) → path ≡ name_in root object → IsUnused root keep v object → ⊥

-- The unused objects among the names were added to the list. If the texts of the list and then
-- those of the names are ascending, the texts of the new list are.
pub record PicksNames (root : Elements) (keep : List (List ℕ)) (paths : List Elements) (v : View)
    (found found' : List (List ℕ × ObjKind)) : Type 0 where
  pub each : (object : List ℕ × ObjKind) → Contains found' object ↔ (Contains found object
      ⊎ (IsUnused root keep v object × Contains paths (name_in root object)))
  pub ascending : is_ascending (map (name_text root) found ++ map path_text paths) ≡ true
      → is_ascending (map (name_text root) found') ≡ true

-- The name of an object's directory: the first two digits of its digest
abbrev pub folder_of : List ℕ × ObjKind → List ℕ
folder_of object = take 2 (hex object.0)

-- Holds if the objects are in directories whose names come before this one
abbrev pub AreBefore : List ℕ → List (List ℕ × ObjKind) → Type 0
AreBefore name found = (object : List ℕ × ObjKind) → Contains found object
    → (is_digest object.0 ≡ true) × (comes_before (folder_of object) name ≡ true)

-- The unused objects of the directory with this name were added to the list. If the texts of the
-- list are ascending and its objects are in directories before this one, the texts of the new list
-- are ascending.
pub record PicksFolder (root : Elements) (keep : List (List ℕ)) (name : List ℕ) (v : View)
    (found found' : List (List ℕ × ObjKind)) : Type 0 where
  pub each : (object : List ℕ × ObjKind) → Contains found' object ↔ (Contains found object
      ⊎ (IsUnused root keep v object × (folder_of object ≡ name)))
  pub ascending : is_ascending (map (name_text root) found) ≡ true → AreBefore name found
      → is_ascending (map (name_text root) found') ≡ true

-- These are the unused objects of the directories with these names. If the names are ascending, the
-- texts of the objects are.
pub record PicksUnused (root : Elements) (keep : List (List ℕ)) (names : List (List ℕ)) (v : View)
    (found : List (List ℕ × ObjKind)) : Type 0 where
  pub each : (object : List ℕ × ObjKind) → Contains found object
      ↔ (IsUnused root keep v object × Contains names (folder_of object))
  pub ascending : is_ascending names ≡ true
      → is_ascending (map (name_text root) found) ≡ true
