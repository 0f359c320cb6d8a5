-- The escapes of a character.
use Rattle.std.proofs.Common.{◌≡◌, ℕ, ◌<◌, ◌≤◌, ◌^◌, ◌-◌, suc, true, false, List, [], ◌∷◌, ◌++◌, length, get_or, refl, ap, sym, ◌∙◌, cond, inl, inr, arith, Option, Some, Result, Ok, Err}
use Rattle.std.specs.Prelude.{encode_utf8, encode_utf8_all, is_ok, OnOk}
use Rattle.std.specs.Fmt.{padded_integral, format_spec, digits, AppendsText, ◌++?◌}
use Rattle.std.proofs.lemmas.Bool.Decides.{nat_tests}
use Rattle.std.proofs.lemmas.Bool.{cases_lt}
use Rattle.std.proofs.lemmas.Fmt.{hex_byte}
use Rattle.std.proofs.lemmas.List.{append-nil}
use Rattle.std.proofs.lemmas.List.Concat.{flat_map-append}
use Rattle.std.proofs.lemmas.Str.{encode_ascii, encodes-append, inside_one}
use Rattle.fl_lines.specs.Lines.{is_escaped, escape_of, escaped}

-- bytes from 128 on are printed as they are
high_byte : (b : ℕ) → 128 ≤ b → is_escaped b ≡ false
high_byte b h = grind (arith, nat_tests)

high_bytes : (bs : List ℕ) → ((k : ℕ) → k < length bs → 128 ≤ get_or bs k 0) → escaped bs ≡ bs
high_bytes [] h = refl
high_bytes (b ∷ bs) h =
    let high : 128 ≤ b = h 0 (omega arith) in
    rw (high_byte b high) (ap (λ t. b ∷ t) (high_bytes bs (λ k l. h (suc k) (omega arith))))

-- the bytes of a character that isn't ASCII are such
high_char : (c k : ℕ) → 128 ≤ c → k < length (encode_utf8 c) → 128 ≤ get_or (encode_utf8 c) k 0
high_char c k h l =
    elim (cases_lt (get_or (encode_utf8 c) k 0) 128) [ inl low ↦ absurd (omega (arith, inside_one c [] (encode_utf8 c) k (sym (append-nil (encode_utf8 c))) l low)) | inr high ↦ high ]

low_char : (c : ℕ) → is_escaped c ≡ true → c < 128
low_char c h = grind (arith, nat_tests)

-- a character that is printed as it is
pub escaped-plain : (c : ℕ) → is_escaped c ≡ false → escaped (encode_utf8 c) ≡ encode_utf8 c
escaped-plain c h = elim (cases_lt c 128) [ inl low ↦ rw (encode_ascii c low) (rw h refl) | inr high ↦ high_bytes (encode_utf8 c) (λ k l. high_char c k high l) ]

-- and one that isn't
pub escaped-marked : (c : ℕ) → is_escaped c ≡ true → escaped (encode_utf8 c) ≡ 92 ∷ padded_integral (format_spec 32 0 4 2 (2 ^ 64 - 1)) false [] (digits 16 false c)
escaped-marked c h =
    let low = low_char c h in
    let small : c < 256 = omega arith in
    rw (encode_ascii c low) (rw (h, hex_byte false c small) refl)

encodes_push : (cs : List ℕ) (c : ℕ) → encode_utf8_all (cs ++ c ∷ []) ≡ encode_utf8_all cs ++ encode_utf8 c
encodes_push cs c = encodes-append cs (c ∷ []) ∙ ap (λ t. encode_utf8_all cs ++ t) (append-nil (encode_utf8 c))

-- one character more
pub escaped-more : (text : List ℕ) (cs : List ℕ) (c : ℕ) (new : List ℕ) → text ≡ escaped (encode_utf8_all cs) → new ≡ text ++ escaped (encode_utf8 c) → new ≡ escaped (encode_utf8_all (cs ++ c ∷ []))
escaped-more text cs c new e f =
    f ∙ ap (λ t. t ++ escaped (encode_utf8 c)) e ∙ sym (ap escaped (encodes_push cs c) ∙ flat_map-append escape_of (encode_utf8_all cs) (encode_utf8 c))

-- what is pushed, in the words of the calls that push it
pub pushed-plain : {E : Type 0} (r : Result (Unit {0}) E) (old new : List ℕ) (c : ℕ) → is_escaped c ≡ false → new ≡ cond (is_ok r) (old ++ encode_utf8 c) old → OnOk r (new ≡ old ++ escaped (encode_utf8 c))
pushed-plain (Ok u) old new c h e = rw (escaped-plain c h) e
pushed-plain (Err x) old new c h e = tt

pub pushed-marked : {E : Type 0} (r : Result (Unit {0}) E) (old new : List ℕ) (c : ℕ) (o : Option (List ℕ)) → is_escaped c ≡ true → o ≡ Some (padded_integral (format_spec 32 0 4 2 (2 ^ 64 - 1)) false [] (digits 16 false c)) → OnOk r (AppendsText old new (Some (92 ∷ []) ++? o)) → OnOk r (new ≡ old ++ escaped (encode_utf8 c))
pushed-marked (Ok u) old new c o h e f = rw (escaped-marked c h) (rw e at f)
pushed-marked (Err x) old new c o h e f = tt
