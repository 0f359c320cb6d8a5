-- Which paths are a folder or below it.
use Rattle.std.proofs.Common.{inl, inr, ◌≡◌, [], ◌++◌, sym, subst, refl, ◌∷◌, List, ℕ, ap, arith, length}
use Rattle.fp_host.specs.Paths.{Elements, IsAbove}
use Rattle.fp_host.proofs.Above.{above_rest, above_on, above_longer}
use Rattle.fp_small.specs.Clear.{IsWithin}
use Rattle.fp_small.specs.Places.{tmp}

pub within_rest : (t q : Elements) → IsWithin t q → (rest : Elements) × (q ≡ rest ++ t)
within_rest t q (inl same) = ([], same)
within_rest t q (inr above) = above_rest t q above

pub within_on : (a b c : Elements) → IsWithin a b → IsWithin b c → IsWithin a c
within_on a b c (inl is) second = subst (λ (x : Elements). IsWithin x c) is second
within_on a b c (inr above) (inl is) = inr (subst (IsAbove a) (sym is) above)
within_on a b c (inr above) (inr higher) = inr (above_on a b c above higher)

pub within_from : (t rest : Elements) → IsWithin t (rest ++ t)
within_from t [] = inl refl
within_from t (x ∷ rest) = inr (elim (within_from t rest) [ inl same ↦ inl (sym same) | inr above ↦ inr above ])

-- what stands below a folder stands in one of its names
pub child_above : (p q : Elements) → IsAbove p q → (x : List ℕ) × IsWithin (x ∷ p) q
child_above p [] above = absurd above
child_above p (y ∷ up) (inl is) = (y, inl (ap (λ (r : Elements). y ∷ r) (sym is)))
child_above p (y ∷ up) (inr higher) = let c = child_above p up higher in (c.0, inr (elim c.1 [ inl is ↦ inl (sym is) | inr above ↦ inr above ]))

pub within_up : (y : Elements) (x : List ℕ) (up : Elements) → IsAbove y (x ∷ up) → IsWithin y up
within_up y x up (inl is) = inl (sym is)
within_up y x up (inr higher) = inr higher

pub one_child : (a b : List ℕ) (p q : Elements) → IsWithin (a ∷ p) q → IsWithin (b ∷ p) q → a ≡ b
one_child a b p q (inl is) (inl other) = cc (is, other)
one_child a b p q (inl is) (inr above) = absurd (omega (arith, above_longer (b ∷ p) q above, ap length is))
one_child a b p q (inr above) (inl is) = absurd (omega (arith, above_longer (a ∷ p) q above, ap length is))
one_child a b p [] (inr above) (inr other) = absurd above
one_child a b p (x ∷ up) (inr above) (inr other) = one_child a b p up (within_up (a ∷ p) x up above) (within_up (b ∷ p) x up other)

pub above_work : (x : List ℕ) (rest : Elements) → IsAbove tmp (rest ++ (x ∷ tmp))
above_work x [] = inl refl
above_work x (y ∷ rest) = inr (above_work x rest)
