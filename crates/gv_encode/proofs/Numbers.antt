-- The lowest bytes of a number.
use Rattle.std.proofs.Common.{◌≡◌, ℕ, zero, suc, ◌/◌, ◌%◌, ◌^◌, ◌≤◌, List, ◌∷◌, take, refl, sym, ap, ap₂, ◌∙◌, arith, pow-suc, [], append-nil}
use Rattle.std.specs.Int.{byte_at, bytes_low_first}
use Rattle.byteorder.specs.Endian.{little_bytes}
use Rattle.std.proofs.Math.Nat.{div-div-eq-div-mul, div-one}
use Rattle.gv_value.specs.Bytes.{le_bytes}

byte-is : (i n : ℕ) → byte_at i n ≡ n / 256 ^ i % 256
byte-is zero n = ap (λ (x : ℕ). x % 256) (sym (div-one n))
byte-is (suc i) n = refl

take-low : (s k i n : ℕ) → s ≤ k → take s (bytes_low_first i k n) ≡ le_bytes s (n / 256 ^ i)
take-low zero k i n h = refl
take-low (suc s) zero i n h = absurd (omega arith)
take-low (suc s) (suc k) i n h =
    let next : n / 256 ^ suc i ≡ n / 256 ^ i / 256 = ap (λ (x : ℕ). n / x) (pow-suc 256 i) ∙ sym (div-div-eq-div-mul n (256 ^ i) 256) in
    ap₂ (λ (x : ℕ) (xs : List ℕ). x ∷ xs) (byte-is i n) (take-low s k (suc i) n (omega arith) ∙ ap (le_bytes s) next)

pub take-number : (s n : ℕ) (bytes : List ℕ) → s ≤ 8 → bytes ≡ little_bytes 8 n → take s bytes ≡ le_bytes s n
take-number s n bytes h is = ap (take s) is ∙ take-low s 8 0 n h ∙ ap (le_bytes s) (div-one n)
