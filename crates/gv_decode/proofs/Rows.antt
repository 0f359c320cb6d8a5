-- Elements of one size.
use Rattle.std.proofs.Common.{◌≡◌, ℕ, ◌/◌, ◌<◌, ◌≤◌, List, length, sym, ap, ◌∙◌, arith, ⊎_elim}
use Rattle.std.proofs.Math.Nat.{div-eq_of_lt}
use Rattle.std.proofs.lemmas.Bool.{cases_lt}
use Rattle.gv_value.specs.declared.limits.TheConstants.{MOST_BYTES, TOO_LARGE}
use Rattle.gv_value.specs.Capped.{capped}
use Rattle.gv_value.specs.Framing.{cut, steps}

-- a size that stands for all larger ones cuts nothing, as they do
pub row-capped : (bytes : List ℕ) (n : ℕ) → length bytes ≤ MOST_BYTES →
    cut bytes 0 (steps (capped n) 0 (length bytes / capped n)) ≡ cut bytes 0 (steps n 0 (length bytes / n))
row-capped bytes n short = ⊎_elim large small (cases_lt TOO_LARGE n)
  where
    small : n ≤ TOO_LARGE → cut bytes 0 (steps (capped n) 0 (length bytes / capped n)) ≡ cut bytes 0 (steps n 0 (length bytes / n))
    small le = let same : capped n ≡ n = omega arith in ap (λ (m : ℕ). cut bytes 0 (steps m 0 (length bytes / m))) same

    large : TOO_LARGE < n → cut bytes 0 (steps (capped n) 0 (length bytes / capped n)) ≡ cut bytes 0 (steps n 0 (length bytes / n))
    large lt =
        let a : length bytes / capped n ≡ 0 = div-eq_of_lt (omega arith) in
        let b : length bytes / n ≡ 0 = div-eq_of_lt (omega arith) in
        ap (λ (k : ℕ). cut bytes 0 (steps (capped n) 0 k)) a ∙ sym (ap (λ (k : ℕ). cut bytes 0 (steps n 0 k)) b)
