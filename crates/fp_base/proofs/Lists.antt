-- What stands in a list, and what all of a list have.
use Rattle.std.specs.List.{AllByRecursion}
use Rattle.std.proofs.Common.{List, [], ◌∷◌, ◌++◌, Contains, arith, inl, sym, inr, ◌≡◌, ◌⊎◌, map, subst, drop, add-one, get_or, length, ℕ, ◌+◌, ◌<◌, ◌∙◌, ap, take, eqb, refl, true}
use Rattle.std.proofs.lemmas.List.Elements.{Contains-push, Contains-append_left, Contains-append_right, Contains-append_cases, Contains-push_cases, All-contains, All-from_recursion}
use Rattle.std.proofs.Math.Seq.{drop-cons}
use Rattle.std.proofs.lemmas.List.{take_more}
use Rattle.std.proofs.lemmas.Bool.{eqb-true}

pub all_append : {A : Type 0} (P : A → Type 0) (xs ys : List A) → AllByRecursion P xs → AllByRecursion P ys → AllByRecursion P (xs ++ ys)
all_append P [] ys a b = b
all_append P (x ∷ xs) ys a b = (a.0, all_append P xs ys a.1 b)

pub all_to : {A : Type 0} (P Q : A → Type 0) → ((x : A) → P x → Q x) → (xs : List A) → AllByRecursion P xs → AllByRecursion Q xs
all_to P Q f [] a = tt
all_to P Q f (x ∷ xs) a = (f x a.0, all_to P Q f xs a.1)

pub in_none : {A : Type 0} (x : A) → Contains [] x → ⊥
in_none x has = absurd (omega (arith, has.1))

pub in_first : {A : Type 0} (x : A) (xs : List A) → Contains (x ∷ xs) x
in_first x xs = Contains-append_left (x ∷ []) xs x (Contains-push [] x)

pub in_rest : {A : Type 0} (y : A) (ys : List A) (x : A) → Contains ys x → Contains (y ∷ ys) x
in_rest y ys x has = Contains-append_right (y ∷ []) ys x has

pub in_cases : {A : Type 0} (y : A) (ys : List A) (x : A) → Contains (y ∷ ys) x → (x ≡ y) ⊎ Contains ys x
in_cases y ys x has = elim (Contains-append_cases (y ∷ []) ys x has) [
  | inl first ↦ elim (Contains-push_cases [] y x first) [ inl none ↦ absurd (in_none x none) | inr same ↦ inl (sym same) ]
  | inr later ↦ inr later
]

pub in_map : {A B : Type 0} (f : A → B) (xs : List A) (x : A) → Contains xs x → Contains (map f xs) (f x)
in_map f [] x has = absurd (in_none x has)
in_map f (y ∷ ys) x has = elim (in_cases y ys x has) [
  | inl same ↦ subst (λ z. Contains (f y ∷ map f ys) (f z)) (sym same) (in_first (f y) (map f ys))
  | inr later ↦ in_rest (f y) (map f ys) (f x) (in_map f ys x later)
]

pub from_map : {A B : Type 0} (f : A → B) (xs : List A) (q : B) → Contains (map f xs) q → (x : A) × Contains xs x × (q ≡ f x)
from_map f [] q has = absurd (in_none q has)
from_map f (y ∷ ys) q has = elim (in_cases (f y) (map f ys) q has) [
  | inl same ↦ (y, in_first y ys, same)
  | inr later ↦ let found = from_map f ys q later in (found.0, in_rest y ys found.0 found.1, found.2)
]

pub all_has : {A : Type 0} (P : A → Type 0) (xs : List A) → AllByRecursion P xs → (x : A) → Contains xs x → P x
all_has P xs all x has = All-contains P xs x (All-from_recursion P xs all) has

-- a list from one of its places on
pub drop_read : {A : Type 0} (xs : List A) (i : ℕ) (x : A) → i < length xs → x ≡ get_or xs i x → drop i xs ≡ x ∷ drop (i + 1) xs
drop_read xs i x low is = drop-cons xs i x low ∙ (λ j. sym is j ∷ drop (sym (add-one i) j) xs)

pub take_read : {A : Type 0} (xs : List A) (i : ℕ) (x : A) → i < length xs → x ≡ get_or xs i x → take (i + 1) xs ≡ take i xs ++ x ∷ []
take_read xs i x within is = take_more xs i x within ∙ ap (λ y. take i xs ++ y ∷ []) (sym is)

pub empty_is : (l : List ℕ) → eqb (length l) 0 ≡ true → l ≡ []
empty_is [] e = refl
empty_is (x ∷ xs) e = absurd (omega (arith, eqb-true (length (x ∷ xs)) 0 e))
