-- The text of a digest and the digest of a text.
use Rattle.std.proofs.Common.{◌≡◌, ◌≤◌, ◌<◌, ◌+◌, ◌*◌, ◌/◌, ◌%◌, ℕ, suc, Bool, true, false, ◌&&◌, ◌||◌, cond, eqb, ltb, List, [], ◌∷◌, length, get_or, Option, Some, None, Result, Ok, Err, ⊎_elim, option_map, unwrap_or, refl, sym, ap, ◌∙◌, arith}
use Rattle.std.specs.List.{list_all, list_any}
use Rattle.std.specs.Char.{is_ascii_uppercase}
use Rattle.std.specs.Result.{result_ok}
use Rattle.std.specs.Prelude.{ok_or}
use Rattle.std.proofs.lemmas.Bool.{and_parts, and_from, or_parts, or_cases, agree_below_at, false≢true, cases_eq, cases_lt, ltb-true, lt-ltb, eq-eqb, ne_eqb, eqb-true, eqb-false}
use Rattle.std.proofs.lemmas.Option.{none-some, same_Some}
use Rattle.std.proofs.lemmas.Bool.Decides.{nat_tests}
use Rattle.hex.specs.Hex.{encode_lower, encode_with, hex_digit_value, digit_or_error, decode_pairs, decode_sized, ◌>>=◌}
use Rattle.hex.specs.declared.error.FromHexError.{FromHexError}
use Rattle.hex.specs.declared.error.FromHexError.TheVariants.{OddLength, InvalidStringLength}
use Rattle.fp_name.specs.Hex.{is_byte, is_digest, digit, hex, digit_value, with_byte, bytes_of, unhex}
use Rattle.fp_name.specs.declared.fault.NameError.{NameError}
use Rattle.fp_name.specs.declared.fault.NameError.TheVariants.{Bad}

-- ---- what arrays of 32 bytes are

pub are_bytes : (bytes : List ℕ) → ((i : ℕ) → get_or bytes i 0 < 256) → list_all is_byte bytes ≡ true
are_bytes [] fits = refl
are_bytes (b ∷ bs) fits = and_from (is_byte b) (list_all is_byte bs) (lt-ltb b 256 (fits 0)) (are_bytes bs (λ i. fits (suc i)))

pub array_digest : (bytes : List ℕ) → length bytes ≡ 32 → ((i : ℕ) → get_or bytes i 0 < 256) → is_digest bytes ≡ true
array_digest bytes long fits = and_from (eqb (length bytes) 32) (list_all is_byte bytes) (eq-eqb (length bytes) 32 long) (are_bytes bytes fits)

-- ---- our words and those of the crate `hex`

pub hex_is_encoded : (bytes : List ℕ) → hex bytes ≡ encode_lower bytes
unfolding hex encode_with
hex_is_encoded [] = refl
hex_is_encoded (b ∷ bs) = ap (λ text. digit (b / 16) ∷ digit (b % 16) ∷ text) (hex_is_encoded bs)

-- where no capital stands, a digit has the number that `hex` gives it
lower_value : (c : ℕ) → is_ascii_uppercase c ≡ false → hex_digit_value c ≡ digit_value c
lower_value c h = grind (arith, nat_tests)

-- one byte of a text, as `hex` reads it
abbrev pair_then : (high low i : ℕ) → Option ℕ → Option ℕ → Result (List ℕ) FromHexError → Result (List ℕ) FromHexError
pair_then high low i h l r =
    (digit_or_error high i h >>= (λ x. digit_or_error low (i + 1) l >>= (λ y. Ok (x * 16 + y)))) >>= (λ byte. r >>= (λ bytes. Ok (byte ∷ bytes)))

byte_read : (high low i : ℕ) (h l : Option ℕ) (r : Result (List ℕ) FromHexError) → result_ok (pair_then high low i h l r) ≡ with_byte h l (result_ok r)
byte_read high low i None l r = refl
byte_read high low i (Some x) None r = refl
byte_read high low i (Some x) (Some y) (Err e) = refl
byte_read high low i (Some x) (Some y) (Ok bytes) = refl

bytes_read : (i : ℕ) (text : List ℕ) → list_any is_ascii_uppercase text ≡ false → result_ok (decode_pairs i text) ≡ bytes_of text
unfolding decode_pairs bytes_of
bytes_read i [] h = refl
bytes_read i (c ∷ []) h = refl
bytes_read i (high ∷ low ∷ rest) h =
    let first = or_parts (is_ascii_uppercase high) (is_ascii_uppercase low || list_any is_ascii_uppercase rest) h in
    let second = or_parts (is_ascii_uppercase low) (list_any is_ascii_uppercase rest) first.1 in
    byte_read high low i (hex_digit_value high) (hex_digit_value low) (decode_pairs (i + 2) rest)
    ∙ ap (λ o. with_byte o (hex_digit_value low) (result_ok (decode_pairs (i + 2) rest))) (lower_value high first.0)
    ∙ ap (λ o. with_byte (digit_value high) o (result_ok (decode_pairs (i + 2) rest))) (lower_value low second.0)
    ∙ ap (with_byte (digit_value high) (digit_value low)) (bytes_read (i + 2) rest second.1)

-- 64 digits are what fills 32 bytes
half : (b d : Bool) (r : Result (List ℕ) FromHexError) → (b ≡ false → d ≡ true → ⊥) → result_ok (cond b (Err OddLength) (cond d r (Err InvalidStringLength))) ≡ None
half true d r h = refl
half false true r h = absurd (h refl refl)
half false false r h = refl

sized : (n : ℕ) (r : Result (List ℕ) FromHexError) (o : Option (List ℕ)) → result_ok r ≡ o
    → result_ok (cond (eqb (n % 2) 1) (Err OddLength) (cond (eqb (n / 2) 32) r (Err InvalidStringLength))) ≡ cond (eqb n 64) o None
sized n r o h =
    ⊎_elim (λ e. rw e h)
    (λ ne. rw (ne_eqb n 64 ne) (half (eqb (n % 2) 1) (eqb (n / 2) 32) r (λ even full. ne (omega (arith, eqb-false (n % 2) 1 even, eqb-true (n / 2) 32 full)))))
    (cases_eq n 64)

-- what `from_hex` reads of a text without capitals
pub digest_read : (text : List ℕ) → list_any is_ascii_uppercase text ≡ false → result_ok (decode_sized text 32) ≡ unhex text
unfolding unhex
digest_read text h = sized (length text) (decode_pairs 0 text) (bytes_of text) (bytes_read 0 text h)

-- a capital is no digit
upper_value : (c : ℕ) → is_ascii_uppercase c ≡ true → digit_value c ≡ None
upper_value c h = grind (arith, nat_tests)

with_byte-high : (l : Option ℕ) (o : Option (List ℕ)) → with_byte None l o ≡ None
with_byte-high l o = refl

with_byte-low : (h : Option ℕ) (o : Option (List ℕ)) → with_byte h None o ≡ None
with_byte-low None o = refl
with_byte-low (Some x) o = refl

with_byte-rest : (h l : Option ℕ) → with_byte h l None ≡ None
with_byte-rest None l = refl
with_byte-rest (Some x) None = refl
with_byte-rest (Some x) (Some y) = refl

bytes_of-upper : (text : List ℕ) → list_any is_ascii_uppercase text ≡ true → bytes_of text ≡ None
unfolding bytes_of
bytes_of-upper [] h = absurd (false≢true h)
bytes_of-upper (c ∷ []) h = refl
bytes_of-upper (high ∷ low ∷ rest) h =
    ⊎_elim (λ e. ap (λ o. with_byte o (digit_value low) (bytes_of rest)) (upper_value high e))
    (λ more. ⊎_elim (λ e. ap (λ o. with_byte (digit_value high) o (bytes_of rest)) (upper_value low e) ∙ with_byte-low (digit_value high) (bytes_of rest))
    (λ e. ap (with_byte (digit_value high) (digit_value low)) (bytes_of-upper rest e) ∙ with_byte-rest (digit_value high) (digit_value low))
    (or_cases (is_ascii_uppercase low) (list_any is_ascii_uppercase rest) more))
    (or_cases (is_ascii_uppercase high) (is_ascii_uppercase low || list_any is_ascii_uppercase rest) h)

cond_none : (b : Bool) (o : Option (List ℕ)) → o ≡ None → cond b o None ≡ None
cond_none true o h = h
cond_none false o h = refl

pub unhex_upper : (text : List ℕ) → list_any is_ascii_uppercase text ≡ true → unhex text ≡ None
unfolding unhex
unhex_upper text h = cond_none (eqb (length text) 64) (bytes_of text) (bytes_of-upper text h)

-- ---- from a digest to its text and back

-- a test of each digit, which computes
abbrev reads_back : ℕ → Bool
reads_back n = eqb (unwrap_or (digit_value (digit n)) 16) n

some_from_unwrap : (o : Option ℕ) (n : ℕ) → n < 16 → unwrap_or o 16 ≡ n → o ≡ Some n
some_from_unwrap None n small e = absurd (omega arith)
some_from_unwrap (Some m) n small e = ap Some e

pub digit_back : (n : ℕ) → n < 16 → digit_value (digit n) ≡ Some n
digit_back n small =
    some_from_unwrap (digit_value (digit n)) n small (eqb-true _ n (agree_below_at reads_back (λ _. true) 16 n refl small))

bytes_back : (bytes : List ℕ) → list_all is_byte bytes ≡ true → bytes_of (hex bytes) ≡ Some bytes
unfolding hex bytes_of
bytes_back [] h = refl
bytes_back (b ∷ bs) h =
    let both = and_parts (is_byte b) (list_all is_byte bs) h in
    let small : b < 256 = ltb-true b 256 both.0 in
    let whole : b / 16 * 16 + b % 16 ≡ b = omega arith in
    ap (λ o. with_byte o (digit_value (digit (b % 16))) (bytes_of (hex bs))) (digit_back (b / 16) (omega arith))
    ∙ ap (λ o. with_byte (Some (b / 16)) o (bytes_of (hex bs))) (digit_back (b % 16) (omega arith))
    ∙ ap (with_byte (Some (b / 16)) (Some (b % 16))) (bytes_back bs both.1)
    ∙ ap (λ (n : ℕ). Some (n ∷ bs)) whole

-- Two digits a byte.
pub length-hex : (bytes : List ℕ) → length (hex bytes) ≡ 2 * length bytes
unfolding hex
length-hex [] = refl
length-hex (b ∷ bs) = omega (arith, length-hex bs)

-- The text of a digest reads as it.
pub unhex-hex : (bytes : List ℕ) → is_digest bytes ≡ true → unhex (hex bytes) ≡ Some bytes
unfolding unhex
unhex-hex bytes h =
    let both = and_parts (eqb (length bytes) 32) (list_all is_byte bytes) h in
    let long : length (hex bytes) ≡ 64 = omega (arith, length-hex bytes, eqb-true (length bytes) 32 both.0) in
    rw long (bytes_back bytes both.1)

-- ---- from a text to the digest and back

-- a test of each code of a digit, which computes
abbrev writes_back : ℕ → Bool
writes_back c = unwrap_or (option_map (λ v. ltb v 16 && eqb (digit v) c) (digit_value c)) true

no_value : (c : ℕ) → 103 ≤ c → digit_value c ≡ None
no_value c h = grind (arith, nat_tests)

value_is : (c v : ℕ) → digit_value c ≡ Some v → (v < 16) × (digit v ≡ c)
value_is c v h =
    ⊎_elim (λ small.
    let tested : unwrap_or (option_map (λ v. ltb v 16 && eqb (digit v) c) (digit_value c)) true ≡ true = agree_below_at writes_back (λ _. true) 103 c refl small in
    let both = and_parts (ltb v 16) (eqb (digit v) c) (rw h at tested) in
    (ltb-true v 16 both.0, eqb-true (digit v) c both.1))
    (λ large. absurd (none-some v (sym (no_value c large) ∙ h)))
    (cases_lt c 103)

-- the parts of a byte that was read
record ReadsByte (h l : Option ℕ) (o : Option (List ℕ)) (bytes : List ℕ) : Type 0 where
  high : ℕ
  low : ℕ
  rest : List ℕ
  is_high : h ≡ Some high
  is_low : l ≡ Some low
  is_rest : o ≡ Some rest
  is_all : (high * 16 + low) ∷ rest ≡ bytes

byte_parts : (h l : Option ℕ) (o : Option (List ℕ)) (bytes : List ℕ) → with_byte h l o ≡ Some bytes → ReadsByte h l o bytes
byte_parts None l o bytes h = cc h
byte_parts (Some x) None o bytes h = cc h
byte_parts (Some x) (Some y) None bytes h = cc h
byte_parts (Some x) (Some y) (Some rest) bytes h =
    record { high = x; low = y; rest = rest; is_high = refl; is_low = refl; is_rest = refl; is_all = same_Some ((x * 16 + y) ∷ rest) bytes h }

cons_two : {a b c d : ℕ} {xs ys : List ℕ} → a ≡ c → b ≡ d → xs ≡ ys → a ∷ b ∷ xs ≡ c ∷ d ∷ ys
cons_two e f g = λ i. e i ∷ f i ∷ g i

text_back : (text bytes : List ℕ) → bytes_of text ≡ Some bytes → (text ≡ hex bytes) × (list_all is_byte bytes ≡ true)
unfolding hex bytes_of
text_back [] bytes h =
    let e : [] ≡ bytes = same_Some [] bytes h in (ap hex e, ap (list_all is_byte) (sym e))
text_back (c ∷ []) bytes h = cc h
text_back (high ∷ low ∷ rest) bytes h =
    let p = byte_parts (digit_value high) (digit_value low) (bytes_of rest) bytes h in
    let x = value_is high p.high p.is_high in
    let y = value_is low p.low p.is_low in
    let more = text_back rest p.rest p.is_rest in
    let upper : (p.high * 16 + p.low) / 16 ≡ p.high = omega arith in
    let lower : (p.high * 16 + p.low) % 16 ≡ p.low = omega arith in
    let fits : p.high * 16 + p.low < 256 = omega arith in (
      cons_two (sym x.1 ∙ ap digit (sym upper)) (sym y.1 ∙ ap digit (sym lower)) more.0 ∙ ap hex p.is_all,
      ap (list_all is_byte) (sym p.is_all) ∙ and_from (is_byte (p.high * 16 + p.low)) (list_all is_byte p.rest) (lt-ltb _ 256 fits) more.1,
    )

cond_then : (b : Bool) (o : Option (List ℕ)) (bytes : List ℕ) → cond b o None ≡ Some bytes → (b ≡ true) × (o ≡ Some bytes)
cond_then true o bytes h = (refl, h)
cond_then false o bytes h = cc h

-- The text that reads as a digest is the digest's text.
pub unhex-some : (text bytes : List ℕ) → unhex text ≡ Some bytes → (text ≡ hex bytes) × (is_digest bytes ≡ true)
unfolding unhex
unhex-some text bytes h =
    let sized = cond_then (eqb (length text) 64) (bytes_of text) bytes h in
    let read = text_back text bytes sized.1 in
    let long : length bytes ≡ 32 = omega (arith, length-hex bytes, ap length read.0, eqb-true (length text) 64 sized.0) in
    (read.0, and_from (eqb (length bytes) 32) (list_all is_byte bytes) (eq-eqb (length bytes) 32 long) read.1)

pub unhex_ok : (text : List ℕ) (r : Result (List ℕ) NameError) (d : List ℕ) → r ≡ ok_or (unhex text) Bad → r ≡ Ok d → unhex text ≡ Some d
unhex_ok text r d is ok = go (unhex text) (sym is ∙ ok)
  where
    go : (o : Option (List ℕ)) → ok_or o Bad ≡ Ok d → o ≡ Some d
    go None e = absurd (cc e)
    go (Some x) e = let same : x ≡ d = cc e in ap Some same

pub unhex_err : (text : List ℕ) (r : Result (List ℕ) NameError) → r ≡ ok_or (unhex text) Bad → ((d : List ℕ) → r ≡ Ok d → ⊥) → unhex text ≡ None
unhex_err text r is none = go (unhex text) refl
  where
    go : (o : Option (List ℕ)) → unhex text ≡ o → o ≡ None
    go None e = refl
    go (Some x) e = absurd (none x (is ∙ ap (λ o. ok_or o Bad) e))
