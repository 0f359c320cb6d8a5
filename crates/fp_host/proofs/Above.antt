-- Which paths are above which.
use Rattle.std.proofs.Common.{inl, sym, ap, inr, ◌≡◌, [], ◌∷◌, ◌++◌, subst, List, refl, ℕ, length, arith, ◌<◌}
use Rattle.fp_host.specs.Paths.{IsAbove, Elements}

-- a path below another ends with it
pub above_rest : (t q : Elements) → IsAbove t q → (rest : Elements) × (q ≡ rest ++ t)
above_rest t [] above = absurd above
above_rest t (x ∷ up) (inl same) = (x ∷ [], ap (λ (l : Elements). x ∷ l) (sym same))
above_rest t (x ∷ up) (inr above) = let more = above_rest t up above in (x ∷ more.0, ap (λ (l : Elements). x ∷ l) more.1)

pub above_on : (a b p : Elements) → IsAbove a b → IsAbove b p → IsAbove a p
above_on a b [] up low = absurd low
above_on a b (x ∷ rest) up (inl is) = inr (subst (IsAbove a) is up)
above_on a b (x ∷ rest) up (inr higher) = inr (above_on a b rest up higher)

-- what is below a child is below
pub below_child : (x : List ℕ) (p q : Elements) → IsAbove (x ∷ p) q → IsAbove p q
below_child x p [] above = absurd above
below_child x p (y ∷ up) (inl is) = inr (subst (IsAbove p) is (inl refl))
below_child x p (y ∷ up) (inr higher) = inr (below_child x p up higher)

pub above_longer : (p q : Elements) → IsAbove p q → length p < length q
above_longer p [] above = absurd above
above_longer p (x ∷ up) (inl is) = omega (arith, ap length is)
above_longer p (x ∷ up) (inr higher) = omega (arith, above_longer p up higher)

pub not_above : (p : Elements) → IsAbove p p → ⊥
not_above p above = absurd (omega (arith, above_longer p p above))
