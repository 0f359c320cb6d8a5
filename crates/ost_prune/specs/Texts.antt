-- The texts of the paths of objects.
use Rattle.std.specs.Prelude.{◌≡◌, ℕ, List, Bool, ◌||◌, true, Option, Some, None, Contains}
use Rattle.std.specs.List.{list_any}
use Rattle.std.specs.Str.{bytes_eq}
use Rattle.fp_host.specs.Paths.{Elements, elements_of}
use Rattle.fp_host.specs.View.{View}
use Rattle.fp_host.specs.Outcome.{shows}
use Rattle.fp_name.specs.Hex.{is_digest}
use Rattle.fp_base.specs.declared.object.ObjKind.{ObjKind}
use Rattle.ost_model.specs.Objects.{Have, store}
use Rattle.ost_model.specs.Order.{first_fault}
use Rattle.ost_model.specs.Used.{IsUsed, used_fault}
use Rattle.ost_walk.specs.Steps.{IsOrder}
use Rattle.ost_store.specs.Names.{name_in, name_text}

-- The text is that of the object's path in the store at `root`, and is read as that path
pub record IsTextOf (root : Elements) (object : List ℕ × ObjKind) (text : List ℕ) : Type 0 where
  pub good : is_digest object.0 ≡ true
  pub is : text ≡ name_text root object
  pub back : elements_of text ≡ name_in root object

-- The texts of these objects were added to the set, and no others
pub record AddsTexts (root : Elements) (objects : List (List ℕ × ObjKind))
    (had has : List ℕ → Bool) : Type 0 where
  pub each : (q : List ℕ) → has q ≡ (had q || list_any (λ o. bytes_eq (name_text root o) q) objects)
  pub good : (object : List ℕ × ObjKind) → Contains objects object
      → IsTextOf root object (name_text root object)

-- The texts of all objects that the commit uses were added to the set, and the commit has no fault
pub record AddsOrder (root : Elements) (have : Have) (commit : List ℕ) (had has : List ℕ → Bool)
    : Type 0 where
  pub objects : List (List ℕ × ObjKind)
  pub order : IsOrder have commit objects
  pub adds : AddsTexts root objects had has

-- The set has the text of each object that the commits use, and of no other object
pub record TellsUsed (root : Elements) (have : Have) (keep : List (List ℕ)) (has : List ℕ → Bool)
    : Type 0 where
  pub used : (object : List ℕ × ObjKind) → IsUsed have keep object
      → has (name_text root object) ≡ true
  pub alone : (object : List ℕ × ObjKind) → is_digest object.0 ≡ true
      → elements_of (name_text root object) ≡ name_in root object
      → has (name_text root object) ≡ true → IsUsed have keep object

-- The set has the texts of the objects that the commits use, and none of the commits has a fault
pub record AreGathered (root : Elements) (have : Have) (keep : List (List ℕ)) (has : List ℕ → Bool)
    : Type 0 where
  pub tells : TellsUsed root have keep has
  pub clean : used_fault have keep ≡ None

-- Holds if the set has the texts of the objects that the commits use in the store at `root`
abbrev pub AreUsedTexts : Elements → List (List ℕ) → View → (List ℕ → Bool) → Type 0
AreUsedTexts root keep v has = TellsUsed root (store root (shows v)) keep has

-- The orders of the commits have no fault in the store at `root`
pub record AreWhole (root : Elements) (keep : List (List ℕ)) (v : View) : Type 0 where
  pub whole : (commit : List ℕ) → Contains keep commit
      → first_fault (store root (shows v)) commit ≡ None

-- Holds if `Is` holds of the result; or the result is `None`, and the order of one of the commits
-- has a fault
abbrev pub UnlessFaulty : {A : Type 0} → Elements → List (List ℕ) → View → (A → Type 0) → Option A
    → Type 0
UnlessFaulty root keep v Is None = AreWhole root keep v → ⊥
UnlessFaulty root keep v Is (Some a) = Is a
