-- What is one of a list.
use Rattle.std.specs.List.{AllByRecursion}
use Rattle.std.proofs.Common.{inl, List, refl, inr, [], ◌∷◌, ◌++◌, ◌≡◌, ◌⊎◌, Contains, arith, suc, subst}
use Rattle.ost_model.specs.Order.{In}

pub in_last : {A : Type 0} (os : List A) (o : A) → In (os ++ o ∷ []) o
in_last [] o = inl refl
in_last (x ∷ os) o = inr (in_last os o)

pub in_cases : {A : Type 0} (os : List A) (o p : A) → In (os ++ o ∷ []) p → In os p ⊎ (o ≡ p)
in_cases [] o p (inl is) = inr is
in_cases [] o p (inr none) = absurd none
in_cases (x ∷ os) o p (inl is) = inl (inl is)
in_cases (x ∷ os) o p (inr has) = elim (in_cases os o p has) [ inl h ↦ inl (inr h) | inr is ↦ inr is ]

pub in_append : {A : Type 0} (xs ys : List A) (a : A) → In (xs ++ ys) a → In xs a ⊎ In ys a
in_append [] ys a h = inr h
in_append (x ∷ xs) ys a (inl e) = inl (inl e)
in_append (x ∷ xs) ys a (inr h) = elim (in_append xs ys a h) [ inl k ↦ inl (inr k) | inr k ↦ inr k ]

pub in_left : {A : Type 0} (xs ys : List A) (o : A) → In xs o → In (xs ++ ys) o
in_left [] ys o has = absurd has
in_left (x ∷ xs) ys o (inl is) = inl is
in_left (x ∷ xs) ys o (inr has) = inr (in_left xs ys o has)

pub in_right : {A : Type 0} (xs ys : List A) (o : A) → In ys o → In (xs ++ ys) o
in_right [] ys o has = has
in_right (x ∷ xs) ys o has = inr (in_right xs ys o has)

pub in_contains : {A : Type 0} (xs : List A) (a : A) → In xs a → Contains xs a
in_contains [] a none = absurd none
in_contains (x ∷ xs) a (inl is) = (0, omega arith, is)
in_contains (x ∷ xs) a (inr more) = let c = in_contains xs a more in (suc c.0, omega (arith, c.1), c.2)

pub all_here : {A : Type 0} (P : A → Type 0) (xs : List A) (a : A) → AllByRecursion P xs → In xs a → P a
all_here P [] a all has = absurd has
all_here P (x ∷ xs) a all (inl is) = subst P is all.0
all_here P (x ∷ xs) a all (inr has) = all_here P xs a all.1 has
