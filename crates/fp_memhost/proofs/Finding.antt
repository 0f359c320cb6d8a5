-- The first element that passes a test, after an edit of the list.
use Rattle.std.proofs.Common.{◌≡◌, inl, inr, ℕ, zero, suc, ◌+◌, ◌<◌, List, [], ◌∷◌, ◌++◌, length, get_or, set, take, Bool, true, false, cond, Some, None, refl, sym, ◌∙◌, ap, arith}
use Rattle.std.specs.List.{find}
use Rattle.std.proofs.lemmas.Bool.{cond-true, cond-false, cases_Bool}
use Rattle.std.proofs.lemmas.List.{append-nil, take_more}

module _ {A : Type 0} (t : A → Bool) where
  -- nothing is found where the first fails
  cut_first : (x : A) (xs : List A) → cond (t x) (Some x) (find t xs) ≡ None → t x ≡ false
  cut_first x xs none = elim (cases_Bool (t x)) [ inr f ↦ f | inl yes' ↦ absurd (cc (sym (cond-true (t x) (Some x) (find t xs) yes') ∙ none)) ]

  cut_rest : (x : A) (xs : List A) → cond (t x) (Some x) (find t xs) ≡ None → find t xs ≡ None
  cut_rest x xs none = sym (cond-false (t x) (Some x) (find t xs) (cut_first x xs none)) ∙ none

  pub find_none : (xs : List A) → ((k : ℕ) (d : A) → k < length xs → t (get_or xs k d) ≡ false) → find t xs ≡ None
  find_none [] each = refl
  find_none (x ∷ xs) each = cond-false (t x) _ _ (each 0 x (omega arith)) ∙ find_none xs (λ k d low. each (suc k) d (omega arith))

  pub none_find : (xs : List A) → find t xs ≡ None → (k : ℕ) (d : A) → k < length xs → t (get_or xs k d) ≡ false
  none_find [] none k d low = absurd (omega arith)
  none_find (x ∷ xs) none zero d low = cut_first x xs none
  none_find (x ∷ xs) none (suc k) d low = none_find xs (cut_rest x xs none) k d (omega arith)

  -- the first one that passes
  pub find_here : (xs : List A) (i : ℕ) (d : A) → i < length xs → find t (take i xs) ≡ None → t (get_or xs i d) ≡ true → find t xs ≡ Some (get_or xs i d)
  find_here [] i d low none yes' = absurd (omega arith)
  find_here (x ∷ xs) zero d low none yes' = cond-true (t x) _ _ yes'
  find_here (x ∷ xs) (suc i) d low none yes' = cond-false (t x) _ _ (cut_first x (take i xs) none) ∙ find_here xs i d (omega arith) (cut_rest x (take i xs) none) yes'

  pub set_hit : (xs : List A) (i : ℕ) (y : A) → i < length xs → find t (take i xs) ≡ None → t y ≡ true → find t (set xs i y) ≡ Some y
  set_hit [] i y low none yes' = absurd (omega arith)
  set_hit (x ∷ xs) zero y low none yes' = cond-true (t y) _ _ yes'
  set_hit (x ∷ xs) (suc i) y low none yes' = cond-false (t x) _ _ (cut_first x (take i xs) none) ∙ set_hit xs i y (omega arith) (cut_rest x (take i xs) none) yes'

  pub set_miss : (xs : List A) (i : ℕ) (y d : A) → t (get_or xs i d) ≡ false → t y ≡ false → find t (set xs i y) ≡ find t xs
  set_miss [] i y d was is = refl
  set_miss (x ∷ xs) zero y d was is = cond-false (t y) _ _ is ∙ sym (cond-false (t x) _ _ was)
  set_miss (x ∷ xs) (suc i) y d was is = ap (cond (t x) (Some x)) (set_miss xs i y d was is)

  pub append_miss : (xs ys : List A) (y : A) → t y ≡ false → find t (xs ++ y ∷ ys) ≡ find t (xs ++ ys)
  append_miss [] ys y is = cond-false (t y) _ _ is
  append_miss (x ∷ xs) ys y is = ap (cond (t x) (Some x)) (append_miss xs ys y is)

  pub append_hit : (xs ys : List A) (y : A) → find t xs ≡ None → t y ≡ true → find t (xs ++ y ∷ ys) ≡ Some y
  append_hit [] ys y none is = cond-true (t y) _ _ is
  append_hit (x ∷ xs) ys y none is = cond-false (t x) _ _ (cut_first x xs none) ∙ append_hit xs ys y (cut_rest x xs none) is

  pub find_front : (xs : List A) (i : ℕ) → find t xs ≡ None → find t (take i xs) ≡ None
  find_front [] zero none = refl
  find_front [] (suc i) none = refl
  find_front (x ∷ xs) zero none = refl
  find_front (x ∷ xs) (suc i) none = cond-false (t x) _ _ (cut_first x xs none) ∙ find_front xs i (cut_rest x xs none)

  -- one element more that fails
  pub find_more : (xs : List A) (i : ℕ) (d : A) → i < length xs → find t (take i xs) ≡ None → t (get_or xs i d) ≡ false → find t (take (i + 1) xs) ≡ None
  find_more xs i d low none is =
      ap (find t) (take_more xs i d low) ∙ append_miss (take i xs) [] (get_or xs i d) is ∙ ap (find t) (append-nil (take i xs)) ∙ none
