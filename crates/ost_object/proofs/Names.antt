-- Names that ascend.
use Rattle.std.proofs.Common.{◌≡◌, ℕ, zero, suc, ◌≤◌, List, [], ◌∷◌, true, refl, length, drop, map, arith}
use Rattle.fp_host.specs.Reads.{is_ascending}

-- one name ascends, and so does none
pub ascends_end : {A B : Type 0} (g : B → List ℕ) (f : A → B) (xs : List A) (k : ℕ) → length xs ≤ suc k → is_ascending (map g (map f (drop k xs))) ≡ true
ascends_end g f [] zero h = refl
ascends_end g f [] (suc k) h = refl
ascends_end g f (x ∷ []) zero h = refl
ascends_end g f (x ∷ y ∷ ys) zero h = absurd (omega (arith, h))
ascends_end g f (x ∷ xs) (suc k) h = ascends_end g f xs k (omega (arith, h))
