-- Rows that are found by name.
use Rattle.std.proofs.Common.{◌≡◌, ℕ, List, [], ◌∷◌, Bool, true, false, Option, Some, None, inl, inr, refl}
use Rattle.std.specs.List.{find}
use Rattle.std.specs.Str.{bytes_eq}
use Rattle.std.proofs.lemmas.Bool.{cases_Bool}
use Rattle.dep_states.specs.Shown.{at_name}

pub at_name-find : {A : Type 0} (name : A → List ℕ) (xs : List A) (t : List ℕ) → find (λ y. bytes_eq (name y) t) xs ≡ at_name name xs t
at_name-find name [] t = refl
at_name-find name (y ∷ ys) t = elim (cases_Bool (bytes_eq (name y) t)) [
  | inl here ↦ rw here refl
  | inr off ↦ rw off (at_name-find name ys t)
]
