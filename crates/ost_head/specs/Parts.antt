-- Metadata objects that are read.
use Rattle.std.specs.Prelude.{◌≡◌, ⊤, Option, Some, None, Result, Ok, Err}
use Rattle.ost_model.specs.Objects.{Fault}
use Rattle.ost_walk.specs.declared.ends.WalkEnd.{WalkEnd}
use Rattle.ost_walk.specs.Ends.{EndsBy}

-- Holds if the result, seen by a view, is what there is. Nothing is refused.
abbrev pub ReadsAs : {A B : Type 0} → (A → B) → Option B → Result A WalkEnd → Type 0
ReadsAs view there result = EndsBy (λ a. there ≡ Some (view a)) (λ w. ⊥) result

-- The object has no fault, and this is its content
pub record IsReadAs {B : Type 0} (fault : Option Fault) (there : Option B) (b : B) : Type 0 where
  pub good : fault ≡ None
  pub read : there ≡ Some b
