-- Lists that are put in order, and rows that come and go: what they have.
use Rattle.std.proofs.Common.{List, ℕ, [], ◌∷◌, ◌++◌, subst, inl, inr, append-nil}
use Rattle.std.specs.List.Sorted.{IsPermutation}
use Rattle.std.proofs.lemmas.Bool.{cases_Bool}
use Rattle.std.proofs.lemmas.List.Sorted.{IsPermutation-refl, IsPermutation-trans, IsPermutation-sym, IsPermutation-cons, IsPermutation-middle, IsPermutation-append_right}
use Rattle.fp_small.specs.Order.{comes_before, inserted, sorted_onto, sorted_by}

swapped : {A : Type 0} (x y : A) (ys : List A) → IsPermutation (x ∷ (y ∷ ys)) (y ∷ (x ∷ ys))
swapped x y ys = IsPermutation-sym (y ∷ (x ∷ ys)) (x ∷ (y ∷ ys)) (IsPermutation-middle (y ∷ []) x ys)

pub permuted_inserted : {A : Type 0} (name : A → List ℕ) (ys : List A) (x : A) → IsPermutation (x ∷ ys) (inserted name ys x)
permuted_inserted name [] x = IsPermutation-refl (x ∷ [])
permuted_inserted name (y ∷ ys) x =
    elim (cases_Bool (comes_before (name y) (name x))) [
      | inl e ↦ rw e (IsPermutation-trans (x ∷ (y ∷ ys)) (y ∷ (x ∷ ys)) (y ∷ inserted name ys x) (swapped x y ys) (IsPermutation-cons y (x ∷ ys) (inserted name ys x) (permuted_inserted name ys x)))
      | inr e ↦ rw e (IsPermutation-refl (x ∷ (y ∷ ys)))
    ]

permuted_onto : {A : Type 0} (name : A → List ℕ) (ys xs : List A) → IsPermutation (xs ++ ys) (sorted_onto name ys xs)
permuted_onto name ys [] = IsPermutation-refl ys
permuted_onto name ys (x ∷ xs) =
    let more = inserted name ys x in
    let front = IsPermutation-sym (xs ++ (x ∷ ys)) (x ∷ (xs ++ ys)) (IsPermutation-middle xs x ys) in
    let placed = IsPermutation-append_right xs (x ∷ ys) more (permuted_inserted name ys x) in
    IsPermutation-trans (x ∷ (xs ++ ys)) (xs ++ (x ∷ ys)) (sorted_onto name more xs) front
    (IsPermutation-trans (xs ++ (x ∷ ys)) (xs ++ more) (sorted_onto name more xs) placed (permuted_onto name more xs))

pub permuted_by : {A : Type 0} (name : A → List ℕ) (xs : List A) → IsPermutation xs (sorted_by name xs)
permuted_by {A = A} name xs = subst (λ (l : List A). IsPermutation l (sorted_by name xs)) (append-nil xs) (permuted_onto name [] xs)
