-- Numbers as bytes, and offsets.
use Rattle.std.proofs.Common.{◌≡◌, ℕ, zero, suc, ◌+◌, ◌-◌, ◌*◌, ◌/◌, ◌%◌, ◌^◌, ◌<◌, ◌≤◌, Bool, true, false, cond, leb, List, [], ◌∷◌, ◌++◌, length, take, drop, Option, Some, None, refl, sym, ap, ◌∙◌, subst, arith, append_assoc, length-append, pow-suc, bytes_eq, ⊎_elim, inl, inr, ◌⊎◌, flat_map}
use Rattle.std.proofs.lemmas.Bool.{leb-true, leb-false, le-leb, lt-leb, cases_lt}
use Rattle.std.proofs.lemmas.Bool.Decides.{nat_tests}
use Rattle.std.proofs.lemmas.List.{take_at, drop_at}
use Rattle.fp_base.proofs.Options.{guarded}
use Rattle.fp_base.proofs.Texts.{bytes_eq-true}
use Rattle.gv_value.specs.Bytes.{le_bytes, le_value, AllBelow}
use Rattle.gv_value.specs.Framing.{width, width_in, numbers, offsets_at}
use Rattle.gv_value.proofs.Lists.{bytes_eq-same}

pub length-le_bytes : (w n : ℕ) → length (le_bytes w n) ≡ w
length-le_bytes zero n = refl
length-le_bytes (suc w) n = ap suc (length-le_bytes w (n / 256))

pub le_value-le_bytes : (w n : ℕ) → n < 256 ^ w → le_value (le_bytes w n) ≡ n
le_value-le_bytes zero n h = omega arith
le_value-le_bytes (suc w) n h =
    let p = pow-suc 256 w in
    let rest = le_value-le_bytes w (n / 256) (omega arith) in
    omega arith

-- the number that the bytes of any number stand for fits in as many bytes
pub le_value-below : (w n : ℕ) → le_value (le_bytes w n) < 256 ^ w
le_value-below zero n = omega arith
le_value-below (suc w) n =
    let p = pow-suc 256 w in
    let rest = le_value-below w (n / 256) in
    omega arith

-- ---- offsets

pub length-offsets : (w : ℕ) (ns : List ℕ) → length (flat_map (le_bytes w) ns) ≡ length ns * w
length-offsets w [] = omega arith
length-offsets w (n ∷ ns) =
    omega (arith, length-append (le_bytes w n) (flat_map (le_bytes w) ns), length-le_bytes w n, length-offsets w ns)

pub length-numbers : (w k : ℕ) (table : List ℕ) → length (numbers w k table) ≡ k
length-numbers w zero table = refl
length-numbers w (suc k) table = ap suc (length-numbers w k (drop w table))

pub numbers-offsets : (w : ℕ) (ns : List ℕ) → AllBelow (256 ^ w) ns → numbers w (length ns) (flat_map (le_bytes w) ns) ≡ ns
numbers-offsets w [] h = refl
numbers-offsets w (n ∷ ns) h =
    let front = take_at (le_bytes w n) (flat_map (le_bytes w) ns) w (length-le_bytes w n) in
    let rest = drop_at (le_bytes w n) (flat_map (le_bytes w) ns) w (length-le_bytes w n) in
    rw (front, rest, le_value-le_bytes w n h.0, numbers-offsets w ns h.1) refl

-- numbers that are read and spell what they were read from fit
pub numbers-below : (w k : ℕ) (table : List ℕ) → flat_map (le_bytes w) (numbers w k table) ≡ table → AllBelow (256 ^ w) (numbers w k table)
numbers-below w zero table e = tt
numbers-below w (suc k) table e =
    let n = le_value (take w table) in
    let more = numbers w k (drop w table) in
    let here : take w table ≡ le_bytes w n = ap (take w) (sym e) ∙ take_at (le_bytes w n) (flat_map (le_bytes w) more) w (length-le_bytes w n) in
    let rest : flat_map (le_bytes w) more ≡ drop w table = sym (drop_at (le_bytes w n) (flat_map (le_bytes w) more) w (length-le_bytes w n)) ∙ ap (drop w) e in
    (subst (λ (x : ℕ). x < 256 ^ w) (ap le_value (sym here)) (le_value-below w n), numbers-below w k (drop w table) rest)

pub offsets_at-spelled : (w k : ℕ) (ns : List ℕ) → length ns ≡ k → AllBelow (256 ^ w) ns → offsets_at w k (flat_map (le_bytes w) ns) ≡ Some ns
offsets_at-spelled w k ns len below =
    let found : numbers w k (flat_map (le_bytes w) ns) ≡ ns = rw (← len) (numbers-offsets w ns below) in
    rw found (rw (bytes_eq-same (flat_map (le_bytes w) ns) (flat_map (le_bytes w) ns) refl) refl)

pub record OffsetsAre (w k : ℕ) (table ns : List ℕ) : Type 0 where
  pub spelled : flat_map (le_bytes w) ns ≡ table
  pub count : length ns ≡ k
  pub below : AllBelow (256 ^ w) ns

pub offsets_at-found : (w k : ℕ) (table ns : List ℕ) → offsets_at w k table ≡ Some ns → OffsetsAre w k table ns
offsets_at-found w k table ns e =
    let g = guarded (bytes_eq (flat_map (le_bytes w) (numbers w k table)) table) (Some (numbers w k table)) ns e in
    let spelled = bytes_eq-true (flat_map (le_bytes w) (numbers w k table)) table g.0 in
    let is : numbers w k table ≡ ns = cc in
    subst (λ (xs : List ℕ). OffsetsAre w k table xs) is
    (record { spelled = spelled; count = length-numbers w k table; below = numbers-below w k table spelled })

-- ---- how wide offsets are

-- the width by the length of the whole is the width by its parts
pub width_in-whole : (n k : ℕ) → width_in (n + k * width n k) ≡ width n k
width_in-whole n k = grind (arith, nat_tests)

pub width_pos : (n k : ℕ) → 0 < width n k
width_pos n k = grind (arith, nat_tests)

pub width_le : (n : ℕ) → 0 < n → width_in n ≤ n
width_le n h = grind (arith, nat_tests)

pub le_bytes-value : (bytes : List ℕ) → AllBelow 256 bytes → le_bytes (length bytes) (le_value bytes) ≡ bytes
le_bytes-value [] h = refl
le_bytes-value (b ∷ bytes) h =
    let below = h.0 in
    let low : (b + 256 * le_value bytes) % 256 ≡ b = omega arith in
    let high : (b + 256 * le_value bytes) / 256 ≡ le_value bytes = omega arith in
    rw (low, high, le_bytes-value bytes h.1) refl
