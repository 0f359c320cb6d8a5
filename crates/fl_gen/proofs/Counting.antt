-- Lists that are made from numbers.
use Rattle.std.proofs.Common.{◌≡◌, inl, inr, ◌+◌, ◌<◌, ℕ, zero, suc, List, [], ◌∷◌, ◌++◌, refl, sym, ◌∙◌, ap, subst, append_assoc, arith}
use Rattle.std.proofs.lemmas.Bool.{cases_lt}
use Rattle.std.proofs.lemmas.List.{append-nil}
use Rattle.std.proofs.lemmas.List.FromFn.{map-range_with_len_more}
use Rattle.ost_model.specs.Order.{In}
use Rattle.ost_model.proofs.Members.{in_last, in_cases, in_left}
use Rattle.fl_gen.specs.Made.{each_of}

pub one_more : {A : Type 0} (f : ℕ → A) (n : ℕ) → each_of f (n + 1) ≡ each_of f n ++ f n ∷ []
unfolding each_of
one_more f n = map-range_with_len_more f 0 n n (omega arith)

next : {A : Type 0} (f : ℕ → A) (n : ℕ) → each_of f (suc n) ≡ each_of f n ++ f n ∷ []
next f n = let e : suc n ≡ n + 1 = omega arith in ap (each_of f) e ∙ one_more f n

pub none_yet : {A : Type 0} (f : ℕ → A) → each_of f 0 ≡ []
unfolding each_of
none_yet f = refl

-- what is in a series is made of a number
pub in_series : {A : Type 0} (f : ℕ → A) (n : ℕ) (a : A) → In (each_of f n) a → (k : ℕ) × (k < n) × (f k ≡ a)
in_series f zero a has = absurd (subst (λ l. In l a) (none_yet f) has)
in_series f (suc n) a has = elim (in_cases (each_of f n) (f n) a (subst (λ l. In l a) (next f n) has)) [
  | inl old ↦ let made = in_series f n a old in (made.0, omega (arith, made.1), made.2)
  | inr is ↦ (n, omega arith, is)
]

-- and what is made of a number is in it
pub series_has : {A : Type 0} (f : ℕ → A) (n k : ℕ) → k < n → In (each_of f n) (f k)
series_has f zero k low = absurd (omega (arith, low))
series_has f (suc n) k low = subst (λ l. In l (f k)) (sym (next f n)) (elim (cases_lt k n) [
  | inl less ↦ in_left (each_of f n) (f n ∷ []) (f k) (series_has f n k less)
  | inr more ↦ subst (λ j. In (each_of f n ++ f n ∷ []) (f j)) (omega (arith, low, more)) (in_last (each_of f n) (f n))
])

pub starts : {A : Type 0} (f : ℕ → A) (xs : List A) → xs ≡ xs ++ each_of f 0
starts f xs = sym (ap (λ l. xs ++ l) (none_yet f) ∙ append-nil xs)

-- one more is pushed onto what stands before the series
pub series_push : {A : Type 0} (f : ℕ → A) (n : ℕ) (old now new : List A) (x : A) → now ≡ old ++ each_of f n → new ≡ now ++ x ∷ [] → x ≡ f n → new ≡ old ++ each_of f (n + 1)
series_push f n old now new x so_far push is =
    push ∙ (ap (λ l. l ++ x ∷ []) so_far
    ∙ (append_assoc old (each_of f n) (x ∷ [])
    ∙ ap (λ l. old ++ l) (ap (λ y. each_of f n ++ y ∷ []) is ∙ sym (one_more f n))))
