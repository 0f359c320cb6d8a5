-- The names of a store, and the objects that they denote.
use Rattle.std.specs.Prelude.{◌≡◌, ◌≢◌, ◌⊎◌, ◌≤◌, ℕ, List, [], ◌∷◌, length, take, drop, ◌++◌, map, codes, true, Option, Some, None, if◌then◌else◌}
use Rattle.std.specs.Str.{bytes_eq}
use Rattle.fp_host.specs.Paths.{Elements, absent, path_text, IsAbove}
use Rattle.fp_host.specs.View.{View}
use Rattle.fp_host.specs.Reads.{is_ascending}
use Rattle.fp_name.specs.Hex.{is_digest, unhex}
use Rattle.fp_small.specs.declared.limits.TheConstants.{MOST_ELEMENTS}
use Rattle.fp_base.specs.declared.object.ObjKind.{ObjKind}
use Rattle.fp_base.specs.declared.object.ObjKind.TheVariants as kinds
use Rattle.ost_model.specs.Objects.{object_path}
use Rattle.ost_model.specs.Stores.{objects_folder}
use Rattle.ost_store.specs.declared.naming.TheConstants.{REST_DIGITS}
use Rattle.ost_store.specs.Walks.{AreLeavesBelow}

-- The path of an object in the store at `root`
abbrev pub name_in : Elements → List ℕ × ObjKind → Elements
name_in root object = object_path root object.0 object.1

-- The text of an object's path in the store at `root`
abbrev pub name_text : Elements → List ℕ × ObjKind → List ℕ
name_text root object = path_text (name_in root object)

-- The paths are those of the files and symlinks below `objects`, ascending by their bytes
pub record ListsNames (root : Elements) (v : View) (paths : List Elements) : Type 0 where
  pub leaves : AreLeavesBelow (objects_folder root) v paths
  pub ascending : is_ascending (map path_text paths) ≡ true

-- No path below `objects` has more than 128 elements
pub record CanList (root : Elements) (v : View) : Type 0 where
  pub short : (q : Elements) → IsAbove (objects_folder root) q
      → (v.names q ≡ absent) ⊎ (length q ≤ MOST_ELEMENTS)

-- The kind whose objects' names have this ending
abbrev pub kind_said : List ℕ → Option ObjKind
kind_said end =
    if bytes_eq end (codes ".commit") then Some kinds.Commit
    else (if bytes_eq end (codes ".dirtree") then Some kinds.DirTree
    else (if bytes_eq end (codes ".dirmeta") then Some kinds.DirMeta
    else (if bytes_eq end (codes ".file") then Some kinds.File else None)))

-- The digest and the kind, if there are both
abbrev pub both_said : Option (List ℕ) → Option ObjKind → Option (List ℕ × ObjKind)
both_said (Some d) (Some kind) = Some (d, kind)
both_said (Some d) None = None
both_said None kind = None

-- The object that the names of its directory and its file denote
abbrev pub object_said : List ℕ → List ℕ → Option (List ℕ × ObjKind)
object_said folder name =
    both_said (unhex (folder ++ take REST_DIGITS name)) (kind_said (drop REST_DIGITS name))

-- The object is the one whose path this is in the store at `root`; or there is none, and no object
-- has this path
abbrev pub IsNamed : Elements → Elements → Option (List ℕ × ObjKind) → Type 0
IsNamed root path (Some object) =
    (is_digest object.0 ≡ true) × (path ≡ object_path root object.0 object.1)
IsNamed root path None =
    (d : List ℕ) (kind : ObjKind) → is_digest d ≡ true → path ≢ object_path root d kind

-- A list with one more element, if it was found
abbrev pub with_found : {A : Type 0} → List A → Option A → List A
with_found found None = found
with_found found (Some a) = found ++ a ∷ []
