-- Places of a list that is written to, and that grows.
use Rattle.std.proofs.Common.{◌≡◌, ◌≢◌, ◌⊎◌, inl, inr, ◌<◌, ◌+◌, ℕ, zero, suc, List, [], ◌∷◌, ◌++◌, length, get_or, refl, sym, ◌∙◌, ap, subst, arith}
use Rattle.std.specs.Prelude.{slice_set}
use Rattle.ost_commit.specs.Folders.{At}

pub at_from : {A : Type 0} (xs : List A) (i : ℕ) (a : A) → i < length xs → get_or xs i a ≡ a → At xs i a
at_from [] i a within is = absurd (omega (arith, within))
at_from (x ∷ xs) zero a within is = is
at_from (x ∷ xs) (suc i) a within is = at_from xs i a (omega (arith, within)) is

pub at_within : {A : Type 0} (xs : List A) (i : ℕ) (a : A) → At xs i a → i < length xs
at_within [] i a h = absurd h
at_within (x ∷ xs) zero a h = omega arith
at_within (x ∷ xs) (suc i) a h = omega (arith, at_within xs i a h)

pub at_one : {A : Type 0} (xs : List A) (i : ℕ) (a b : A) → At xs i a → At xs i b → a ≡ b
at_one [] i a b h k = absurd h
at_one (x ∷ xs) zero a b h k = sym h ∙ k
at_one (x ∷ xs) (suc i) a b h k = at_one xs i a b h k

pub at_get : {A : Type 0} (xs : List A) (i : ℕ) (a d : A) → At xs i a → get_or xs i d ≡ a
at_get [] i a d h = absurd h
at_get (x ∷ xs) zero a d h = h
at_get (x ∷ xs) (suc i) a d h = at_get xs i a d h

pub set_cases : {A : Type 0} (xs : List A) (i : ℕ) (b : A) (j : ℕ) (a : A) → At (slice_set xs i b) j a → ((j ≡ i) × (b ≡ a)) ⊎ ((j ≢ i) × At xs j a)
set_cases [] i b j a h = absurd h
set_cases (x ∷ xs) zero b zero a h = inl (refl, h)
set_cases (x ∷ xs) zero b (suc j) a h = inr ((λ e. absurd (omega (arith, e))), h)
set_cases (x ∷ xs) (suc i) b zero a h = inr ((λ e. absurd (omega (arith, e))), h)
set_cases (x ∷ xs) (suc i) b (suc j) a h = elim (set_cases xs i b j a h) [ inl k ↦ inl (ap suc k.0, k.1) | inr k ↦ inr ((λ e. k.0 (omega (arith, e))), k.1) ]

pub set_here : {A : Type 0} (xs : List A) (i : ℕ) (b : A) → i < length xs → At (slice_set xs i b) i b
set_here [] i b h = absurd (omega (arith, h))
set_here (x ∷ xs) zero b h = refl
set_here (x ∷ xs) (suc i) b h = set_here xs i b (omega (arith, h))

pub set_other : {A : Type 0} (xs : List A) (i : ℕ) (b : A) (j : ℕ) (a : A) → j ≢ i → At xs j a → At (slice_set xs i b) j a
set_other [] i b j a apart h = absurd h
set_other (x ∷ xs) zero b zero a apart h = absurd (apart refl)
set_other (x ∷ xs) zero b (suc j) a apart h = h
set_other (x ∷ xs) (suc i) b zero a apart h = h
set_other (x ∷ xs) (suc i) b (suc j) a apart h = set_other xs i b j a (λ e. apart (ap suc e)) h

pub more_cases : {A : Type 0} (xs ys : List A) (j : ℕ) (a : A) → At (xs ++ ys) j a → At xs j a ⊎ ((k : ℕ) × (j ≡ length xs + k) × At ys k a)
more_cases [] ys j a h = inr (j, omega arith, h)
more_cases (x ∷ xs) ys zero a h = inl h
more_cases (x ∷ xs) ys (suc j) a h = elim (more_cases xs ys j a h) [ inl k ↦ inl k | inr k ↦ inr (k.0, omega (arith, k.1), k.2) ]

pub more_left : {A : Type 0} (xs ys : List A) (j : ℕ) (a : A) → At xs j a → At (xs ++ ys) j a
more_left [] ys j a h = absurd h
more_left (x ∷ xs) ys zero a h = h
more_left (x ∷ xs) ys (suc j) a h = more_left xs ys j a h

pub more_right : {A : Type 0} (xs ys : List A) (j k : ℕ) (a : A) → j ≡ length xs + k → At ys k a → At (xs ++ ys) j a
more_right [] ys j k a e h = subst (λ n. At ys n a) (let same : k ≡ j = omega (arith, e) in same) h
more_right (x ∷ xs) ys zero k a e h = absurd (omega (arith, e))
more_right (x ∷ xs) ys (suc j) k a e h = more_right xs ys j k a (omega (arith, e)) h
