-- The parts of lines, read back from what is written.
use Rattle.std.proofs.Common.{◌≡◌, inl, inr, ℕ, zero, suc, ◌+◌, ◌-◌, ◌*◌, ◌/◌, ◌%◌, ◌<◌, ◌^◌, Bool, true, false, List, [], ◌∷◌, length, Some, None, refl, ap, subst, ◌∙◌, arith}
use Rattle.std.specs.Prelude.{◌&&◌, ◌||◌, ◌==◌, nat_lt, not, codes, decimal, slice_index, if◌then◌else◌}
use Rattle.std.specs.Char.{is_ascii_digit}
use Rattle.std.specs.List.{list_all, list_any}
use Rattle.std.specs.Result.{result_ok}
use Rattle.std.specs.Str.{bytes_eq, is_utf8}
use Rattle.std.specs.Str.Parse.{digits_value}
use Rattle.std.proofs.lemmas.Bool.{and_from, and_parts, and_right, lt-ltb, le-ltb, cases_eq, cases_lt, ne_eqb}
use Rattle.std.proofs.lemmas.Fmt.{decimal_is_IsNumeral, decimal_nonempty, first_decimal, decimal_digit}
use Rattle.hex.specs.Hex.{IsBytes, encode_with, encode_lower, lower_digits, decode_of}
use Rattle.hex.proofs.HexLemmas.{decode_of-encode_lower, length-encode_with}
use Rattle.fp_host.specs.Paths.{Elements, is_element, cut, path_text}
use Rattle.fp_base.specs.Steps.{◌>>=◌, where_it}
use Rattle.ost_description.specs.Parts.{has_leading_zero, are_digits, number_in, octal_in, mode_in, content_in, path_in, text_in}
use Rattle.fp_base.specs.Parts.{is_lower_digit, hex_in}
use Rattle.ost_description.specs.Writing.{mode_text, content_text, IsWritablePath}
use Rattle.ost_description.proofs.PartLemmas.{own}

-- ---- numbers

not_zero : (n : ℕ) → 0 < n → (n == 0) ≡ false
not_zero n l = ne_eqb n 0 (λ e. absurd (omega arith))

no_zero_first : (n : ℕ) → n < 2 ^ 64 → (nat_lt 1 (length (decimal n)) && slice_index (decimal n) 0 == 48) ≡ false
no_zero_first n small = elim (cases_eq n 0) [
  | inl e ↦
      let one : length (decimal n) ≡ 1 = ap (λ m. length (decimal m)) e ∙ ap (λ (ds : List ℕ). length ds) (decimal_digit 0 (omega arith)) in
      ap (λ (b : Bool). b && slice_index (decimal n) 0 == 48) (le-ltb 1 (length (decimal n)) (omega (arith, one)))
  | inr more ↦
      let first = first_decimal n (omega arith) small in
      let other : (slice_index (decimal n) 0 == 48) ≡ false = ne_eqb _ 48 (λ e. absurd (omega (arith, first, e))) in
      and_no (nat_lt 1 (length (decimal n))) (slice_index (decimal n) 0 == 48) other
]
  where
    and_no : (a b : Bool) → b ≡ false → (a && b) ≡ false
    and_no true b e = e
    and_no false b e = refl

decimal_digits : (n : ℕ) → n < 2 ^ 64 → are_digits (decimal n) ≡ true
decimal_digits n small =
    and_from (not (length (decimal n) == 0) && not (has_leading_zero (decimal n))) (list_all is_ascii_digit (decimal n))
    (and_from (not (length (decimal n) == 0)) (not (has_leading_zero (decimal n))) (ap not (not_zero _ (decimal_nonempty n small))) (ap not (no_zero_first n small)))
    (own.from (decimal n) (decimal_is_IsNumeral n small).0.1)

pub number_back : (n : ℕ) → n < 2 ^ 64 → number_in (decimal n) ≡ Some n
unfolding number_in
number_back n small =
    let value = (decimal_is_IsNumeral n small).1 in
    ap (λ (b : Bool). where_it (b && nat_lt (digits_value 10 (decimal n)) (2 ^ 64)) (digits_value 10 (decimal n))) (decimal_digits n small)
    ∙ ap (λ (m : ℕ). where_it (nat_lt m (2 ^ 64)) m) value ∙ ap (λ (b : Bool). where_it b n) (lt-ltb n (2 ^ 64) small)

-- ---- permission bits

octal_back : (x : ℕ) → x < 8 → octal_in (48 + x) ≡ Some x
octal_back x small =
    ap (λ (b : Bool). if b || nat_lt 55 (48 + x) then None else Some (48 + x - 48)) (le-ltb (48 + x) 48 (omega arith))
    ∙ ap (λ (b : Bool). if b then None else Some (48 + x - 48)) (le-ltb 55 (48 + x) (omega arith)) ∙ ap Some (omega arith)

pub mode_back : (mode : ℕ) → mode < 512 → mode_in (mode_text mode) ≡ Some mode
unfolding mode_in
mode_back mode small =
    let high : mode / 64 < 8 = omega arith in
    let middle : mode / 8 % 8 < 8 = omega arith in
    let low : mode % 8 < 8 = omega arith in
    let whole : mode / 64 * 64 + mode / 8 % 8 * 8 + mode % 8 ≡ mode = omega arith in
    ap (λ o. o >>= λ a. octal_in (48 + mode / 8 % 8) >>= λ b. octal_in (48 + mode % 8) >>= λ c. Some (a * 64 + b * 8 + c)) (octal_back (mode / 64) high)
    ∙ ap (λ o. o >>= λ b. octal_in (48 + mode % 8) >>= λ c. Some (mode / 64 * 64 + b * 8 + c)) (octal_back (mode / 8 % 8) middle)
    ∙ ap (λ o. o >>= λ c. Some (mode / 64 * 64 + mode / 8 % 8 * 8 + c)) (octal_back (mode % 8) low)
    ∙ ap Some whole

-- ---- bytes

abbrev digits_good : ℕ → Bool
digits_good zero = true
digits_good (suc n) = is_lower_digit (slice_index lower_digits n) && digits_good n

digit_good : (n k : ℕ) → digits_good n ≡ true → k < n → is_lower_digit (slice_index lower_digits k) ≡ true
digit_good zero k h l = absurd (omega arith)
digit_good (suc n) k h l =
    let parts = and_parts (is_lower_digit (slice_index lower_digits n)) (digits_good n) h in
    elim (cases_lt k n) [
      | inl below ↦ digit_good n k parts.1 below
      | inr top ↦ let e : n ≡ k = omega arith in subst (λ (m : ℕ). is_lower_digit (slice_index lower_digits m) ≡ true) e parts.0
    ]

pub lower : (bytes : List ℕ) → IsBytes bytes → list_all is_lower_digit (encode_lower bytes) ≡ true
unfolding encode_with
lower [] good = refl
lower (b ∷ bs) good =
    let small : b < 256 = good 0 in
    and_from (is_lower_digit (slice_index lower_digits (b / 16))) _ (digit_good 16 (b / 16) refl (omega arith))
    (and_from (is_lower_digit (slice_index lower_digits (b % 16))) _ (digit_good 16 (b % 16) refl (omega arith)) (lower bs (λ i. good (suc i))))

no_dash : (b : ℕ) (bs : List ℕ) → bytes_eq (encode_lower (b ∷ bs)) (codes "-") ≡ false
unfolding encode_with
no_dash b bs = and_right (slice_index lower_digits (b / 16) == 45) false refl

long : (b : ℕ) (bs : List ℕ) → not (length (encode_lower (b ∷ bs)) == 0) ≡ true
long b bs = ap not (not_zero (length (encode_lower (b ∷ bs))) (let e = length-encode_with lower_digits (b ∷ bs) in omega (arith, e)))

hex_back : (b : ℕ) (bs : List ℕ) → IsBytes (b ∷ bs) → hex_in (encode_lower (b ∷ bs)) ≡ Some (b ∷ bs)
unfolding hex_in
hex_back b bs good =
    let text = encode_lower (b ∷ bs) in
    ap (λ (t : Bool). if t then result_ok (decode_of text) else None) (and_from (not (length text == 0)) (list_all is_lower_digit text) (long b bs) (lower (b ∷ bs) good))
    ∙ ap result_ok (decode_of-encode_lower (b ∷ bs) good)

pub content_back : (bytes : List ℕ) → IsBytes bytes → content_in (content_text bytes) ≡ Some bytes
unfolding content_in
content_back [] good = refl
content_back (b ∷ bs) good = ap (λ (t : Bool). if t then Some [] else hex_in (encode_lower (b ∷ bs))) (no_dash b bs) ∙ hex_back b bs good

-- ---- texts and paths

pub text_back : (text : List ℕ) → is_utf8 text ≡ true → text_in text ≡ Some text
unfolding text_in
text_back text e = ap (λ (b : Bool). where_it b text) e

pub path_back : (path : Elements) → IsWritablePath path → path_in (path_text path) ≡ Some path
unfolding path_in
path_back path w =
    let text = path_text path in
    ap (λ (b : Bool). where_it (b && not (list_any (λ c. c == 32) text) && list_all is_element (cut text)) (cut text)) w.utf8
    ∙ ap (λ (b : Bool). where_it (not b && list_all is_element (cut text)) (cut text)) w.no_space
    ∙ ap (λ (p : Elements). where_it (list_all is_element p) p) w.own
    ∙ ap (λ (b : Bool). where_it b path) w.elements
