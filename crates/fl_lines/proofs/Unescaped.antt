-- Texts are told apart by what is printed of them.
use Rattle.std.proofs.Common.{◌≡◌, ℕ, ◌/◌, ◌%◌, ◌<◌, Bool, true, false, cond, List, [], ◌∷◌, ◌++◌, refl, ap, sym, ◌∙◌, arith}
use Rattle.std.specs.Prelude.{not, ◌==◌}
use Rattle.std.specs.Fmt.{digit_glyph}
use Rattle.std.specs.List.{list_all}
use Rattle.std.proofs.lemmas.Bool.{false≢true}
use Rattle.std.proofs.lemmas.Bool.Decides.{nat_tests}
use Rattle.fl_lines.specs.Lines.{is_escaped, escaped}
use Rattle.fp_base.specs.Parts.{is_control}
use Rattle.fp_base.proofs.Booleans.{neither}

glyph_injective : (d e : ℕ) → digit_glyph false d ≡ digit_glyph false e → d ≡ e
glyph_injective d e h = grind (arith, nat_tests)

digits_determine : (a b : ℕ) → a / 16 ≡ b / 16 → a % 16 ≡ b % 16 → a ≡ b
digits_determine a b h l = omega arith

-- the escape of a byte, by whether it is escaped
abbrev escape_by : Bool → ℕ → List ℕ
escape_by marked b = cond marked (92 ∷ digit_glyph false (b / 16) ∷ digit_glyph false (b % 16) ∷ []) (b ∷ [])

backslash_marked : (b : ℕ) → is_escaped b ≡ false → 92 ≡ b → ⊥
backslash_marked b plain e = false≢true (sym plain ∙ ap is_escaped (sym e))

same_heads : (p q : Bool) (a b : ℕ) (s t : List ℕ) → is_escaped a ≡ p → is_escaped b ≡ q → escape_by p a ++ s ≡ escape_by q b ++ t → (a ≡ b) × (s ≡ t)
same_heads true true a b s t f g e =
    let high : digit_glyph false (a / 16) ≡ digit_glyph false (b / 16) = cc in
    let low : digit_glyph false (a % 16) ≡ digit_glyph false (b % 16) = cc in
    (digits_determine a b (glyph_injective (a / 16) (b / 16) high) (glyph_injective (a % 16) (b % 16) low), cc)
same_heads true false a b s t f g e = absurd (backslash_marked b g cc)
same_heads false true a b s t f g e = absurd (backslash_marked a f cc)
same_heads false false a b s t f g e = (cc, cc)

some_bytes : (p : Bool) (b : ℕ) (t : List ℕ) → [] ≡ escape_by p b ++ t → ⊥
some_bytes true b t e = cc
some_bytes false b t e = cc

pub escaped_injective : (a b : List ℕ) → escaped a ≡ escaped b → a ≡ b
escaped_injective [] [] e = refl
escaped_injective [] (y ∷ ys) e = absurd (some_bytes (is_escaped y) y (escaped ys) e)
escaped_injective (x ∷ xs) [] e = absurd (some_bytes (is_escaped x) x (escaped xs) (sym e))
escaped_injective (x ∷ xs) (y ∷ ys) e =
    let same = same_heads (is_escaped x) (is_escaped y) x y (escaped xs) (escaped ys) refl refl e in
    let rest = escaped_injective xs ys same.1 in
    let head = same.0 in
    cc

-- no control byte is printed

glyph_printable : (d : ℕ) → d < 16 → is_control (digit_glyph false d) ≡ false
glyph_printable d h = grind (arith, nat_tests)

not_control : (b : ℕ) → is_escaped b ≡ false → is_control b ≡ false
not_control b h = neither (is_control b) (b == 92) h

high_digit : (b : ℕ) → is_escaped b ≡ true → b / 16 < 16
high_digit b h = grind (arith, nat_tests)

printable_by : (p : Bool) (b : ℕ) (t : List ℕ) → is_escaped b ≡ p → list_all (λ c. not (is_control c)) t ≡ true → list_all (λ c. not (is_control c)) (escape_by p b ++ t) ≡ true
printable_by true b t f h = rw (glyph_printable (b / 16) (high_digit b f)) (rw (glyph_printable (b % 16) (omega arith)) h)
printable_by false b t f h = rw (not_control b f) h

pub escaped_printable : (text : List ℕ) → list_all (λ b. not (is_control b)) (escaped text) ≡ true
escaped_printable [] = refl
escaped_printable (b ∷ text) = printable_by (is_escaped b) b (escaped text) refl (escaped_printable text)
