-- The line that is written for a group or a pair says that group or pair.
use Rattle.std.proofs.Common.{◌≡◌, ℕ, Bool, true, false, not, ◌&&◌, ◌||◌, eqb, List, [], ◌∷◌, ◌++◌, length, Some, Ok, refl, sym, ap, subst, ◌∙◌, inl, inr, arith}
use Rattle.std.specs.List.{list_all, list_any}
use Rattle.std.specs.Str.{is_utf8}
use Rattle.std.proofs.lemmas.Bool.{cases_Bool, and_parts, or_parts, not-true, eqb-true, both_ways}
use Rattle.std.proofs.lemmas.List.Folds.{list_any-append}
use Rattle.fp_keyfile.specs.Grammar.{is_blank, is_return, begins_so, ends_so, is_name_byte, is_name, is_key_byte, begins_no_key, is_key, is_value_byte, is_value}
use Rattle.fp_keyfile.specs.Lines.{byte_before, lines_of, trimmed_front, trimmed_end, split_at, header, entry, is_text, header_at, header_of, entry_with, entry_at, entry_of, marked, text_says, line_says}
use Rattle.fp_keyfile.specs.KeyFile.{is_good_pair}
use Rattle.fp_keyfile.proofs.Good.{IsGoodPair}
use Rattle.fp_keyfile.proofs.Texts

-- ---- bytes that pass a test

-- a byte that fails the test isn't among bytes that pass it
pub none_is : (p : ℕ → Bool) (c : ℕ) → p c ≡ false → (bs : List ℕ) → list_all p bs ≡ true → list_any (λ b. eqb b c) bs ≡ false
none_is p c fails [] h = refl
none_is p c fails (b ∷ bs) h =
    let a = and_parts (p b) (list_all p bs) h in
    elim (cases_Bool (eqb b c)) [
      | inl e ↦ absurd (both_ways (p c) fails (subst (λ (x : ℕ). p x ≡ true) (eqb-true b c e) a.0))
      | inr e ↦ rw e (none_is p c fails bs a.1)
    ]

-- a byte that isn't in the parts and isn't between them isn't in the whole
pub none_joined : (c : ℕ) (xs : List ℕ) (d : ℕ) (ys : List ℕ) → eqb d c ≡ false → list_any (λ b. eqb b c) xs ≡ false → list_any (λ b. eqb b c) ys ≡ false → list_any (λ b. eqb b c) (xs ++ (d ∷ ys)) ≡ false
none_joined c xs d ys between hx hy = list_any-append (λ b. eqb b c) xs (d ∷ ys) ∙ rw (hx, between, hy) refl

pub name_bytes : (name : List ℕ) → is_name name ≡ true → list_all is_name_byte name ≡ true
name_bytes name h = (and_parts (not (eqb (length name) 0)) (list_all is_name_byte name) h).1

-- what a key is, by its parts
pub record IsKeyText (key : List ℕ) : Type 0 where
  pub first : ℕ
  pub rest : List ℕ
  pub whole : key ≡ first ∷ rest
  pub begins : begins_no_key first ≡ false
  pub bytes : list_all is_key_byte key ≡ true
  pub ends : ends_so is_blank key ≡ false

pub IsKeyText-from : (key : List ℕ) → is_key key ≡ true → IsKeyText key
IsKeyText-from [] h = absurd cc
IsKeyText-from (b ∷ bs) h =
    let key = b ∷ bs in
    let a = and_parts (not (eqb (length key) 0) && not (begins_so begins_no_key key) && list_all is_key_byte key) (not (ends_so is_blank key)) h in
    let c = and_parts (not (eqb (length key) 0) && not (begins_so begins_no_key key)) (list_all is_key_byte key) a.0 in
    let d = and_parts (not (eqb (length key) 0)) (not (begins_so begins_no_key key)) c.0 in
    record { first = b; rest = bs; whole = refl; begins = not-true _ d.1; bytes = c.1; ends = not-true _ a.1 }

-- what a value is, by its parts
pub record IsValueText (value : List ℕ) : Type 0 where
  pub bytes : list_all is_value_byte value ≡ true
  pub begins : begins_so is_blank value ≡ false
  pub ends : ends_so is_return value ≡ false

pub IsValueText-from : (value : List ℕ) → is_value value ≡ true → IsValueText value
IsValueText-from value h =
    let a = and_parts (list_all is_value_byte value && not (begins_so is_blank value)) (not (ends_so is_return value)) h in
    let c = and_parts (list_all is_value_byte value) (not (begins_so is_blank value)) a.0 in
    record { bytes = c.0; begins = not-true _ c.1; ends = not-true _ a.1 }

-- ---- a line that doesn't end with a carriage return is its own text

text_says_marked : (line : List ℕ) → is_text line ≡ true → list_all is_blank line ≡ false → text_says line ≡ marked line
text_says_marked line text blank = rw (text, blank) refl

line_says_text : (line : List ℕ) → ends_so is_return line ≡ false → line_says line ≡ text_says line
unfolding line_says
line_says_text line ends = ap text_says (Texts.trimmed_end_same is_return line ends)

-- ---- the line of a group

abbrev pub header_line : List ℕ → List ℕ
header_line name = 91 ∷ (name ++ (93 ∷ []))

pub none_in_header : (c : ℕ) (name : List ℕ) → is_name_byte c ≡ false → eqb 91 c ≡ false → eqb 93 c ≡ false → list_all is_name_byte name ≡ true → list_any (λ b. eqb b c) (header_line name) ≡ false
none_in_header c name fails opening closing bytes = rw (opening, none_joined c name 93 [] closing (none_is is_name_byte c fails name bytes) refl) refl

pub header_line-says : (name : List ℕ) → is_name name ≡ true → is_utf8 name ≡ true → line_says (header_line name) ≡ Ok (header name)
header_line-says name good utf8 =
    let line = header_line name in
    let bytes = name_bytes name good in
    let ends : ends_so is_return line ≡ false = Texts.ends_so-append is_return (91 ∷ name) 93 [] in
    let zeros : list_any (λ b. eqb b 0) line ≡ false = none_in_header 0 name refl refl refl bytes in
    let whole : is_utf8 line ≡ true = Texts.utf8_joined [] 91 (name ++ (93 ∷ [])) (omega arith) Texts.utf8_nil (Texts.utf8_joined name 93 [] (omega arith) utf8 Texts.utf8_nil) in
    let text : is_text line ≡ true = rw (whole, zeros) refl in
    let cut : split_at 93 (name ++ (93 ∷ [])) ≡ Some (name, []) = Texts.split_at_found 93 name [] (none_is is_name_byte 93 refl name bytes) in
    let told : header_of (name ++ (93 ∷ [])) ≡ Ok (header name) = ap header_at cut ∙ rw good refl in
    line_says_text line ends ∙ text_says_marked line text refl ∙ told

-- ---- the line of a pair

abbrev pub entry_line : List ℕ → List ℕ → List ℕ
entry_line key value = key ++ (61 ∷ value)

ends_entry : (key value : List ℕ) → ends_so is_return value ≡ false → ends_so is_return (entry_line key value) ≡ false
ends_entry key [] h = Texts.ends_so-append is_return key 61 []
ends_entry key (v ∷ value) h = Texts.ends_so-append is_return key 61 (v ∷ value) ∙ h

pub none_in_entry : (c : ℕ) (key value : List ℕ) → is_key_byte c ≡ false → is_value_byte c ≡ false → eqb 61 c ≡ false → list_all is_key_byte key ≡ true → list_all is_value_byte value ≡ true → list_any (λ b. eqb b c) (entry_line key value) ≡ false
none_in_entry c key value in_key in_value equals k v = none_joined c key 61 value equals (none_is is_key_byte c in_key key k) (none_is is_value_byte c in_value value v)

entry_of_line : (key value : List ℕ) → is_key key ≡ true → IsKeyText key → IsValueText value → entry_of (entry_line key value) ≡ Ok (entry key value)
entry_of_line key value good k v =
    let cut : split_at 61 (entry_line key value) ≡ Some (key, value) = Texts.split_at_found 61 key value (none_is is_key_byte 61 refl key k.bytes) in
    let same_key : trimmed_end is_blank key ≡ key = Texts.trimmed_end_same is_blank key k.ends in
    let same_value : trimmed_front is_blank value ≡ value = Texts.trimmed_front_same is_blank value v.begins in
    ap entry_at cut ∙ ap (λ (x : List ℕ). entry_with x (trimmed_front is_blank value)) same_key ∙ ap (entry_with key) same_value ∙ rw good refl

-- the first byte of a key marks neither a comment nor a group
marked_entry : (b : ℕ) (bs : List ℕ) → begins_no_key b ≡ false → (marked (b ∷ bs) ≡ entry_of (b ∷ bs)) × (list_all is_blank (b ∷ bs) ≡ false)
marked_entry b bs h =
    let a = or_parts (eqb b 91 || eqb b 35) (is_blank b) h in
    let c = or_parts (eqb b 91) (eqb b 35) a.0 in
    (rw (c.1, c.0) refl, rw a.1 refl)

pub entry_line-says : (key value : List ℕ) → is_good_pair (record { key = key; value = value }) ≡ true → IsGoodPair (record { key = key; value = value }) → line_says (entry_line key value) ≡ Ok (entry key value)
entry_line-says key value good g =
    let line = entry_line key value in
    let k = IsKeyText-from key g.key in
    let v = IsValueText-from value g.value in
    let ends : ends_so is_return line ≡ false = ends_entry key value v.ends in
    let zeros : list_any (λ b. eqb b 0) line ≡ false = none_in_entry 0 key value refl refl refl k.bytes v.bytes in
    let whole : is_utf8 line ≡ true = Texts.utf8_joined key 61 value (omega arith) g.key_text g.value_text in
    let text : is_text line ≡ true = rw (whole, zeros) refl in
    let first : line ≡ k.first ∷ (k.rest ++ (61 ∷ value)) = ap (λ (x : List ℕ). x ++ (61 ∷ value)) k.whole in
    let m = subst (λ (x : List ℕ). (marked x ≡ entry_of x) × (list_all is_blank x ≡ false)) (sym first) (marked_entry k.first (k.rest ++ (61 ∷ value)) k.begins) in
    line_says_text line ends ∙ text_says_marked line text m.1 ∙ m.0 ∙ entry_of_line key value g.key k v

-- ---- the lines of a text

pub lines_of-line : (line rest : List ℕ) → list_any (λ b. eqb b 10) line ≡ false → lines_of (line ++ (10 ∷ rest)) ≡ line ∷ lines_of rest
lines_of-line [] rest h = refl
lines_of-line (b ∷ line) rest h =
    let a = or_parts (eqb b 10) (list_any (λ b. eqb b 10) line) h in
    ap (byte_before b) (lines_of-line line rest a.1) ∙ rw a.0 refl
