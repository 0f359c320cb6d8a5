-- Facts on the parts of lines.
use Rattle.std.proofs.Common.{◌≡◌, ℕ, ◌<◌, ◌^◌, Bool, true, false, List, [], ◌∷◌, length, Some, None, Ok, Err, Result, sym, ap, ◌∙◌, arith, rules, subst}
use Rattle.std.specs.Prelude.{◌&&◌, ◌==◌, not, nat_lt}
use Rattle.std.specs.Char.{is_ascii_digit}
use Rattle.std.specs.List.{list_all}
use Rattle.std.specs.Result.{OkIff}
use Rattle.std.specs.Str.{IsUtf8, is_utf8}
use Rattle.std.specs.Str.Parse.{digits_value, ParsesUnsigned}
use Rattle.std.proofs.lemmas.Bool.{and_parts, lt-ltb, ltb-true, false_from_ne_true}
use Rattle.std.proofs.lemmas.Fmt.{IsAscii-from_digits}
use Rattle.std.proofs.lemmas.Str.{is_utf8-from_IsUtf8, IsUtf8-from_is_utf8, IsUtf8-from_ascii}
use Rattle.std.proofs.lemmas.Str.Parse.{IsNumeralModel, numerals_by_value, parse_digits}
use Rattle.fp_base.specs.Steps.{where_it}
use Rattle.ost_description.specs.Parts.{are_digits, has_leading_zero, number_in, text_in}

pub text_is : (bytes text : List ℕ) → text ≡ bytes → IsUtf8 bytes → text_in bytes ≡ Some text
unfolding text_in
text_is bytes text e u = ap (λ (b : Bool). where_it b bytes) (is_utf8-from_IsUtf8 bytes u) ∙ ap Some (sym e)

pub no_text : (bytes : List ℕ) → (IsUtf8 bytes → ⊥) → text_in bytes ≡ None
unfolding text_in
no_text bytes none = ap (λ (b : Bool). where_it b bytes) (false_from_ne_true (is_utf8 bytes) (λ e. none (IsUtf8-from_is_utf8 bytes e)))

-- decimal digits are what the library reads
pub own : IsNumeralModel (λ ds. list_all is_ascii_digit ds ≡ true) (digits_value 10)
own = numerals_by_value (λ ds. list_all is_ascii_digit ds ≡ true) (search rules)

digits_of : (text : List ℕ) → are_digits text ≡ true → list_all is_ascii_digit text ≡ true
digits_of text e = (and_parts (not (length text == 0) && not (has_leading_zero text)) (list_all is_ascii_digit text) e).1

pub digits_are_text : (text : List ℕ) → are_digits text ≡ true → IsUtf8 text
digits_are_text text e = IsUtf8-from_ascii text (IsAscii-from_digits text (own.to text (digits_of text e)))

pub some_digits : (text : List ℕ) → are_digits text ≡ true → 0 < length text
some_digits [] e = absurd cc
some_digits (c ∷ cs) e = omega arith

number_by : (text : List ℕ) (b : Bool) → are_digits text ≡ true → nat_lt (digits_value 10 text) (2 ^ 64) ≡ b → number_in text ≡ where_it b (digits_value 10 text)
unfolding number_in
number_by text b e f = λ i. where_it (e i && f i) (digits_value 10 text)

pub parsed : {E : Type 0} (text : List ℕ) (r : Result ℕ E) (n : ℕ) → r ≡ Ok n → are_digits text ≡ true → ParsesUnsigned 64 10 text r → number_in text ≡ Some n
parsed text r n is e p =
    let value = subst (λ r. OkIff r ((0 < length text) × (digits_value 10 text < 2 ^ 64)) (digits_value 10 text)) is (parse_digits own 64 text r p (digits_of text e)) in
    number_by text true e (lt-ltb _ _ value.0.1) ∙ ap Some (sym value.1)

pub unparsed : {E : Type 0} (text : List ℕ) (r : Result ℕ E) (err : E) → r ≡ Err err → are_digits text ≡ true → ParsesUnsigned 64 10 text r → number_in text ≡ None
unparsed text r err is e p =
    let value = subst (λ r. OkIff r ((0 < length text) × (digits_value 10 text < 2 ^ 64)) (digits_value 10 text)) is (parse_digits own 64 text r p (digits_of text e)) in
    number_by text false e (false_from_ne_true _ (λ small. value (some_digits text e, ltb-true _ _ small)))
