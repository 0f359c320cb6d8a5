-- Rows by their names, and lists of which each element is so.
use Rattle.std.proofs.Common.{◌≡◌, inl, inr, ℕ, ◌+◌, List, [], ◌∷◌, ◌++◌, drop, map, Bool, true, false, ◌&&◌, Some, refl, sym, ◌∙◌, ap}
use Rattle.std.specs.Prelude.{cond, filter, if◌then◌else◌}
use Rattle.std.specs.List.{AllByRecursion, list_all}
use Rattle.std.specs.Str.{bytes_eq}
use Rattle.std.proofs.lemmas.Bool.{cases_Bool, and_parts}
use Rattle.fp_base.proofs.Texts.{bytes_eq-true}
use Rattle.fp_small.specs.Order.{comes_before, inserted}
use Rattle.fp_small.proofs.Ordered.{before_differs}
use Rattle.dep_states.specs.Shown.{at_name}

module _ {A : Type 0} (name : A → List ℕ) where
  -- a row that is put in is the one of its name
  pub at_put : (xs : List A) (a : A) (t : List ℕ) → at_name name (inserted name xs a) t ≡ (if bytes_eq (name a) t then Some a else at_name name xs t)
  at_put [] a t = refl
  at_put (y ∷ ys) a t =
      elim (cases_Bool (comes_before (name y) (name a))) [
        | inl before ↦ elim (cases_Bool (bytes_eq (name y) t)) [
          | inl here ↦ let off : bytes_eq (name a) t ≡ false = ap (bytes_eq (name a)) (sym (bytes_eq-true (name y) t here)) ∙ before_differs (name y) (name a) before in rw (before, here, off) refl
          | inr other ↦ rw (before, other) (at_put ys a t)
        ]
        | inr last ↦ rw last refl
      ]

  -- what is found has the name
  pub at_has_name : (xs : List A) (t : List ℕ) (a : A) → at_name name xs t ≡ Some a → name a ≡ t
  at_has_name [] t a is = absurd (cc is)
  at_has_name (y ∷ ys) t a is = elim (cases_Bool (bytes_eq (name y) t)) [
    | inl here ↦ let same : y ≡ a = cc (rw here at is) in ap name (sym same) ∙ bytes_eq-true (name y) t here
    | inr other ↦ at_has_name ys t a (rw other at is)
  ]

-- ---- lists

module _ {A : Type 0} (P : A → Type 0) where
  pub all_append : (xs ys : List A) → AllByRecursion P xs → AllByRecursion P ys → AllByRecursion P (xs ++ ys)
  all_append [] ys front back = back
  all_append (x ∷ xs) ys front back = (front.0, all_append xs ys front.1 back)

  pub all_front : (xs ys : List A) → AllByRecursion P (xs ++ ys) → AllByRecursion P xs
  all_front [] ys all = tt
  all_front (x ∷ xs) ys all = (all.0, all_front xs ys all.1)

  pub all_back : (xs ys : List A) → AllByRecursion P (xs ++ ys) → AllByRecursion P ys
  all_back [] ys all = all
  all_back (x ∷ xs) ys all = all_back xs ys all.1

  filter_by : (b : Bool) (x : A) (xs : List A) → P x → AllByRecursion P xs → AllByRecursion P (cond b (x ∷ xs) xs)
  filter_by true x xs one all = (one, all)
  filter_by false x xs one all = all

  pub all_filter : (test : A → Bool) (xs : List A) → AllByRecursion P xs → AllByRecursion P (filter test xs)
  all_filter test [] all = tt
  all_filter test (x ∷ xs) all = filter_by (test x) x (filter test xs) all.0 (all_filter test xs all.1)

  pub all_on : (Q : A → Type 0) → ((a : A) → P a → Q a) → (xs : List A) → AllByRecursion P xs → AllByRecursion Q xs
  all_on Q on [] all = tt
  all_on Q on (x ∷ xs) all = (on x all.0, all_on Q on xs all.1)

pub all_map : {A B : Type 0} (Q : B → Type 0) (f : A → B) (xs : List A) → AllByRecursion (λ a. Q (f a)) xs → AllByRecursion Q (map f xs)
all_map Q f [] all = tt
all_map Q f (x ∷ xs) all = (all.0, all_map Q f xs all.1)

pub all_true : {A : Type 0} (test : A → Bool) (xs : List A) → list_all test xs ≡ true → AllByRecursion (λ a. test a ≡ true) xs
all_true test [] is = tt
all_true test (x ∷ xs) is = let both = and_parts (test x) (list_all test xs) is in (both.0, all_true test xs both.1)

pub all_apply : {A : Type 0} (P Q : A → Type 0) (xs : List A) → AllByRecursion (λ a. P a → Q a) xs → AllByRecursion P xs → AllByRecursion Q xs
all_apply P Q [] so all = tt
all_apply P Q (x ∷ xs) so all = (so.0 all.0, all_apply P Q xs so.1 all.1)

-- ---- a test of each, one after another

module _ {A : Type 0} (test : A → Bool) (xs : List A) (i : ℕ) (rest : list_all test xs ≡ list_all test (drop i xs)) where
  -- none is left
  pub all_hold : drop i xs ≡ [] → list_all test xs ≡ true
  all_hold none = rest ∙ ap (list_all test) none

  module _ (x : A) (here : drop i xs ≡ x ∷ drop (i + 1) xs) where
    one_by : (b : Bool) → test x ≡ b → list_all test xs ≡ (b && list_all test (drop (i + 1) xs))
    one_by b is = rest ∙ ap (list_all test) here ∙ ap (λ (c : Bool). c && list_all test (drop (i + 1) xs)) is

    pub one_fails : test x ≡ false → list_all test xs ≡ false
    one_fails is = one_by false is

    pub one_holds : test x ≡ true → list_all test xs ≡ list_all test (drop (i + 1) xs)
    one_holds is = one_by true is
