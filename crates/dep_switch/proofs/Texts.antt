-- The parts of a ref and the digits of a digest as elements of a path, and the digits as the text
-- of a link.
use Rattle.std.proofs.Common.{◌≡◌, ℕ, zero, suc, ◌<◌, ◌≤◌, ◌/◌, ◌%◌, ◌==◌, List, [], ◌∷◌, length, Bool, true, not, refl, sym, ◌∙◌, ltb, eqb, arith}
use Rattle.std.specs.Prelude.{slice_index}
use Rattle.std.specs.List.{list_all}
use Rattle.std.specs.Str.{IsAscii}
use Rattle.std.proofs.lemmas.Bool.{and_parts, and_from, eqb-true, ltb-true, agree_below_at}
use Rattle.std.proofs.lemmas.Str.{is_utf8-from_IsUtf8, IsUtf8-from_ascii}
use Rattle.fp_host.specs.Paths.{is_element, is_link_text}
use Rattle.fp_host.proofs.LinkTexts.{link_text_is}
use Rattle.fp_name.specs.Hex.{hex, digit, is_byte, is_digest}
use Rattle.fp_name.proofs.Files.{file_digest}
use Rattle.fp_name.proofs.HexTexts.{length-hex}
use Rattle.fp_small.proofs.Elements.{element_file}

pub element_digits : (d : List ℕ) → is_digest d ≡ true → is_element (hex d) ≡ true
element_digits d h = element_file (hex d) (file_digest d h)

-- ---- links

abbrev is_ascii_digit : ℕ → Bool
is_ascii_digit n = ltb (digit n) 128

abbrev is_some_digit : ℕ → Bool
is_some_digit n = not (digit n == 0)

small_digit : (n : ℕ) → n < 16 → digit n < 128
small_digit n small = ltb-true (digit n) 128 (agree_below_at is_ascii_digit (λ _. true) 16 n refl small)

some_digit : (n : ℕ) → n < 16 → not (digit n == 0) ≡ true
some_digit n small = agree_below_at is_some_digit (λ _. true) 16 n refl small

ascii : (bytes : List ℕ) → list_all is_byte bytes ≡ true → IsAscii (hex bytes)
unfolding hex
ascii [] h i = omega arith
ascii (b ∷ bs) h zero = let small : b < 256 = ltb-true b 256 (and_parts (is_byte b) (list_all is_byte bs) h).0 in small_digit (b / 16) (omega arith)
ascii (b ∷ bs) h (suc zero) = small_digit (b % 16) (omega arith)
ascii (b ∷ bs) h (suc (suc i)) = ascii bs (and_parts (is_byte b) (list_all is_byte bs) h).1 i

no_zeros : (bytes : List ℕ) → list_all is_byte bytes ≡ true → list_all (λ b. not (b == 0)) (hex bytes) ≡ true
unfolding hex
no_zeros [] h = refl
no_zeros (b ∷ bs) h =
    let both = and_parts (is_byte b) (list_all is_byte bs) h in
    let small : b < 256 = ltb-true b 256 both.0 in
    and_from (not (digit (b / 16) == 0)) _ (some_digit (b / 16) (omega arith))
    (and_from (not (digit (b % 16) == 0)) (list_all (λ b. not (b == 0)) (hex bs)) (some_digit (b % 16) (omega arith)) (no_zeros bs both.1))

pub link_digits : (d : List ℕ) → is_digest d ≡ true → is_link_text (hex d) ≡ true
link_digits d h =
    let both = and_parts (eqb (length d) 32) (list_all is_byte d) h in
    let long : length (hex d) ≡ 64 = omega (arith, length-hex d, eqb-true (length d) 32 both.0) in
    sym (link_text_is (hex d) true (omega arith) (omega arith) (is_utf8-from_IsUtf8 (hex d) (IsUtf8-from_ascii (hex d) (ascii d both.1))) (sym (no_zeros d both.1)))
