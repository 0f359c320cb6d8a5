-- The objects that commits use, gathered by the texts of their paths.
use Rattle.std.specs.Prelude.{◌≡◌, ◌⊎◌, ◌↔◌, ℕ, List, [], true, None, Contains, String, string_bytes}
use Rattle.std.specs.List.{AllByRecursion}
use Rattle.std.specs.Map.{values_of}
use Rattle.std.specs.String.{string_cmp}
use Rattle.std.specs.BTreeMap.{insert_entry}
use Rattle.fp_host.specs.Paths.{elements_of}
use Rattle.fp_name.specs.Hex.{is_digest}
use Rattle.fp_base.specs.declared.object.ObjKind.{ObjKind}
use Rattle.ost_model.specs.Objects.{Have, object_path}
use Rattle.ost_model.specs.Used.{IsUsed, ListsUsed, object_text, used_fault}
use Rattle.ost_walk.specs.Steps.{IsOrder}

-- The text is that of the object's path, and is read as that path
pub record IsKeyOf (text : List ℕ) (object : List ℕ × ObjKind) : Type 0 where
  pub good : is_digest object.0 ≡ true
  pub is : text ≡ object_text object
  pub back : elements_of text ≡ object_path [] object.0 object.1

-- Holds if each key is the text of its object's path
abbrev pub AreKeyed : {Z : Type 0} → List (String Z × (List ℕ × ObjKind)) → Type 0
AreKeyed es = AllByRecursion (λ e. IsKeyOf (string_bytes e.0) e.1) es

-- The object is added to the map, under the text of its path
pub record Puts {Z : Type 0} (object : List ℕ × ObjKind)
    (es fs : List (String Z × (List ℕ × ObjKind))) : Type 0 where
  pub key : String Z
  pub text : IsKeyOf (string_bytes key) object
  pub put : fs ≡ insert_entry string_cmp es key object

-- All of these objects are added to the map
pub record PutsAll {Z : Type 0} (objects : List (List ℕ × ObjKind))
    (es fs : List (String Z × (List ℕ × ObjKind))) : Type 0 where
  pub keyed : AreKeyed es → AreKeyed fs
  pub each : AreKeyed es → (o : List ℕ × ObjKind)
      → Contains (values_of fs) o ↔ (Contains objects o ⊎ Contains (values_of es) o)

-- All objects that the commit uses are added to the map, and none of them has a fault
pub record PutsOrder {Z : Type 0} (have : Have) (commit : List ℕ)
    (es fs : List (String Z × (List ℕ × ObjKind))) : Type 0 where
  pub objects : List (List ℕ × ObjKind)
  pub order : IsOrder have commit objects
  pub all : PutsAll objects es fs

-- The map has the objects that the commits use, and none of them has a fault
pub record AreUsed {Z : Type 0} (have : Have) (commits : List (List ℕ))
    (es : List (String Z × (List ℕ × ObjKind))) : Type 0 where
  pub keyed : AreKeyed es
  pub each : (o : List ℕ × ObjKind) → Contains (values_of es) o ↔ IsUsed have commits o
  pub clean : used_fault have commits ≡ None

-- The list has the objects that the commits use, and none of them has a fault
pub record IsUsedList (have : Have) (commits : List (List ℕ))
    (objects : List (List ℕ × ObjKind)) : Type 0 where
  pub lists : ListsUsed have commits objects
  pub clean : used_fault have commits ≡ None
