-- The objects that commits use.
use Rattle.std.specs.Prelude.{◌≡◌, ◌↔◌, ℕ, List, [], ◌∷◌, map, true, Option, None, Contains}
use Rattle.std.specs.Option.{option_or}
use Rattle.fp_host.specs.Paths.{path_text}
use Rattle.fp_host.specs.Reads.{is_ascending}
use Rattle.fp_base.specs.declared.object.ObjKind.{ObjKind}
use Rattle.ost_model.specs.Objects.{Have, Fault, object_path}
use Rattle.ost_model.specs.Order.{Place, In, order, first_walk_fault}

-- The object is in the order of one of the commits
pub record IsUsed (have : Have) (commits : List (List ℕ)) (object : List ℕ × ObjKind) : Type 0 where
  pub commit : List ℕ
  pub place : Place
  pub kept : Contains commits commit
  pub within : In (order have commit) place
  pub is : object ≡ (place.digest, place.kind)

-- The text of an object's path in every store
abbrev pub object_text : List ℕ × ObjKind → List ℕ
object_text object = path_text (object_path [] object.0 object.1)

-- The objects that the commits use, each once, in ascending order of the texts of their paths
pub record ListsUsed (have : Have) (commits : List (List ℕ))
    (objects : List (List ℕ × ObjKind)) : Type 0 where
  pub each : (object : List ℕ × ObjKind) → Contains objects object ↔ IsUsed have commits object
  pub ascending : is_ascending (map object_text objects) ≡ true

-- The first fault of the first commit that has one, by walks that read only metadata objects
abbrev pub used_fault : Have → List (List ℕ) → Option (Place × Fault)
used_fault have [] = None
used_fault have (commit ∷ commits) =
    option_or (first_walk_fault have commit) (used_fault have commits)
