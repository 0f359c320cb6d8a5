-- What lists have.
use Rattle.std.proofs.Common.{◌≡◌, inl, inr, List, [], ◌∷◌, length, refl, Contains, arith}
use Rattle.fp_base.proofs.Lists.{in_none, in_cases}

pub in_one : {A : Type 0} (y x : A) → Contains (y ∷ []) x → x ≡ y
in_one y x has = elim (in_cases y [] x has) [ inl same ↦ same | inr later ↦ absurd (in_none x later) ]

pub empty_items : {A : Type 0} (xs : List A) → length xs ≡ 0 → xs ≡ []
empty_items [] none = refl
empty_items (x ∷ xs) none = absurd (omega (arith, none))
