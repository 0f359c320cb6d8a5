-- How large numbers of few bytes are.
use Rattle.std.proofs.Common.{◌≡◌, ℕ, zero, suc, ◌+◌, ◌-◌, ◌*◌, ◌^◌, ◌<◌, ◌≤◌, List, [], ◌∷◌, length, slice_index, drop, sym, ap, ◌∙◌, subst, arith, pow-suc, length-drop}
use Rattle.std.proofs.lemmas.List.{drop_more, drop_all}
use Rattle.byteorder.specs.Endian.{little_from, little_number}
use Rattle.gv_value.specs.Bytes.{le_value, AllBelow}

pub value-below : (bytes : List ℕ) → AllBelow 256 bytes → le_value bytes < 256 ^ length bytes
value-below [] h = omega arith
value-below (b ∷ bytes) h =
    let p = pow-suc 256 (length bytes) in
    let rest = value-below bytes h.1 in
    let here = h.0 in
    omega arith

pow_more : (n d : ℕ) → 256 ^ n ≤ 256 ^ (n + d)
pow_more n zero = let same : n + 0 ≡ n = omega arith in subst (λ (x : ℕ). 256 ^ n ≤ 256 ^ x) (sym same) (omega arith)
pow_more n (suc d) =
    let same : n + suc d ≡ suc (n + d) = omega arith in
    let p = pow-suc 256 (n + d) in
    let rest = pow_more n d in
    subst (λ (x : ℕ). 256 ^ n ≤ 256 ^ x) (sym same) (omega arith)

pub pow_le : (n m : ℕ) → n ≤ m → 256 ^ n ≤ 256 ^ m
pow_le n m le = let same : n + (m - n) ≡ m = omega arith in subst (λ (x : ℕ). 256 ^ n ≤ 256 ^ x) same (pow_more n (m - n))

pub AllBelow-drop : (n : ℕ) (bytes : List ℕ) → AllBelow 256 bytes → AllBelow 256 (drop n bytes)
AllBelow-drop zero bytes h = h
AllBelow-drop (suc n) [] h = h
AllBelow-drop (suc n) (b ∷ bytes) h = AllBelow-drop n bytes h.1

-- a number is that of its bytes
little-from : (bytes : List ℕ) (n i : ℕ) → i + n ≡ length bytes → little_from i n bytes ≡ le_value (drop i bytes)
little-from bytes zero i e = sym (ap le_value (drop_all i bytes (omega arith)))
little-from bytes (suc n) i e =
    let next : suc i ≡ i + 1 = omega arith in
    ap (λ (m : ℕ). slice_index bytes i + 256 * m) (little-from bytes n (suc i) (omega arith) ∙ ap (λ (k : ℕ). le_value (drop k bytes)) next)
    ∙ sym (ap le_value (drop_more bytes i 0 (omega arith)))

pub little-is : (bytes : List ℕ) (n : ℕ) → n ≡ length bytes → little_number n bytes ≡ le_value bytes
little-is bytes n e = little-from bytes n 0 (let zero_more : 0 + n ≡ n = omega arith in zero_more ∙ e)
