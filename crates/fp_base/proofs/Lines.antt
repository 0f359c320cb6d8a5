-- A line of a text, and what comes after it.
use Rattle.std.specs.Prelude.{option_map}
use Rattle.std.specs.List.{position_or_len, All}
use Rattle.std.proofs.Common.{Bool, ℕ, ◌==◌, List, drop, take, ◌+◌, refl, None, Some, cond, true, false, ◌≡◌, ltb, length, ◌<◌, ◌≤◌, arith, ap}
use Rattle.std.proofs.lemmas.Option.{some_pair_parts}
use Rattle.std.proofs.lemmas.Bool.{ltb-true, ltb-false}
use Rattle.std.proofs.lemmas.List.Sums.{fails_before_first}
use Rattle.std.proofs.lemmas.List.{length-drop}
use Rattle.fp_base.specs.Parts.{parts_at}

abbrev pub is_end : ℕ → Bool
is_end b = b == 10

abbrev cut_at : List ℕ → ℕ → List ℕ × List ℕ
cut_at bytes n = (take n bytes, drop (n + 1) bytes)

found_by : (b : Bool) (at : ℕ) (bytes line remainder : List ℕ) → option_map (cut_at bytes) (cond b (Some at) None) ≡ Some (line, remainder)
    → (b ≡ true) × (take at bytes ≡ line) × (drop (at + 1) bytes ≡ remainder)
found_by true at bytes line remainder e = let parts = some_pair_parts (take at bytes) line (drop (at + 1) bytes) remainder e in (refl, parts.0, parts.1)
found_by false at bytes line remainder e = absurd cc

missed_by : (b : Bool) (at : ℕ) (bytes : List ℕ) → option_map (cut_at bytes) (cond b (Some at) None) ≡ None → b ≡ false
missed_by true at bytes e = absurd cc
missed_by false at bytes e = refl

pub found : (bytes line remainder : List ℕ) → parts_at 10 bytes ≡ Some (line, remainder)
    → (position_or_len is_end bytes < length bytes) × (take (position_or_len is_end bytes) bytes ≡ line) × (drop (position_or_len is_end bytes + 1) bytes ≡ remainder)
unfolding parts_at
found bytes line remainder e = let parts = found_by (ltb (position_or_len is_end bytes) (length bytes)) (position_or_len is_end bytes) bytes line remainder e in (ltb-true _ _ parts.0, parts.1, parts.2)

pub missed : (bytes : List ℕ) → parts_at 10 bytes ≡ None → length bytes ≤ position_or_len is_end bytes
unfolding parts_at
missed bytes e = ltb-false _ _ (missed_by (ltb (position_or_len is_end bytes) (length bytes)) (position_or_len is_end bytes) bytes e)

pub none_ends : (bytes : List ℕ) → length bytes ≤ position_or_len is_end bytes → All (λ b. is_end b ≡ false) bytes
none_ends bytes l k d m = fails_before_first is_end bytes k d (omega (arith, l, m))

pub remainder_is_shorter : (bytes line remainder : List ℕ) → parts_at 10 bytes ≡ Some (line, remainder) → length remainder < length bytes
remainder_is_shorter bytes line remainder e =
    let f = found bytes line remainder e in
    omega (arith, f.0, ap (λ (l : List ℕ). length l) f.2, length-drop (position_or_len is_end bytes + 1) bytes)
