-- Lists, options and tests.
use Rattle.std.proofs.Common.{◌≡◌, ℕ, zero, suc, ◌+◌, ◌-◌, ◌<◌, ◌≤◌, true, ◌&&◌, eqb, List, [], ◌∷◌, ◌++◌, length, take, drop, replicate, reverse, map, Option, Some, None, option_map, option_and_then, refl, sym, ap, ◌∙◌, subst, arith, append_assoc, append-nil, length-append, bytes_eq}
use Rattle.std.proofs.lemmas.Bool.{and_parts, and_from, eqb-true, eq-eqb}
use Rattle.std.proofs.lemmas.List.{take_at, drop_at, length-reverse}
use Rattle.std.proofs.lemmas.Slice.Eq.{bytes_eq-Decides}
use Rattle.gv_value.specs.Bytes.{zeros, all_zero}

pub bytes_eq-same : (a b : List ℕ) → a ≡ b → bytes_eq a b ≡ true
bytes_eq-same a b e = (bytes_eq-Decides a b).1 e

-- a list that ends in one element has it after the others
pub take_before : (a : List ℕ) (b : ℕ) → take (length (a ++ b ∷ []) - 1) (a ++ b ∷ []) ≡ a
take_before a b = take_at a (b ∷ []) _ (omega (arith, length-append a (b ∷ [])))

pub drop_before : (a : List ℕ) (b : ℕ) → drop (length (a ++ b ∷ []) - 1) (a ++ b ∷ []) ≡ b ∷ []
drop_before a b = drop_at a (b ∷ []) _ (omega (arith, length-append a (b ∷ [])))

pub all_zero-zeros : (n : ℕ) → all_zero (zeros n) ≡ true
all_zero-zeros zero = refl
all_zero-zeros (suc n) = all_zero-zeros n

pub zeros-from : (bytes : List ℕ) → all_zero bytes ≡ true → bytes ≡ zeros (length bytes)
zeros-from [] e = refl
zeros-from (b ∷ bytes) e =
    let p = and_parts (eqb b 0) (all_zero bytes) e in
    ap (λ (x : ℕ). x ∷ bytes) (eqb-true b 0 p.0) ∙ ap (λ (xs : List ℕ). 0 ∷ xs) (zeros-from bytes p.1)

pub length-zeros : (n : ℕ) → length (zeros n) ≡ n
length-zeros zero = refl
length-zeros (suc n) = ap suc (length-zeros n)

-- ---- steps that may fail

pub then_some : {A B : Type 0} (f : A → Option B) (o : Option A) (y : B) → option_and_then f o ≡ Some y → (x : A) × (o ≡ Some x) × (f x ≡ Some y)
then_some f None y e = absurd cc
then_some f (Some x) y e = (x, refl, e)

pub map_some : {A B : Type 0} (f : A → B) (o : Option A) (y : B) → option_map f o ≡ Some y → (x : A) × (o ≡ Some x) × (f x ≡ y)
map_some f None y e = absurd cc
map_some f (Some x) y e = (x, refl, cc)
