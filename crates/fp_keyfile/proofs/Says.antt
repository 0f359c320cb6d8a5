-- What a line says can be written, and the line that is written says it.
use Rattle.std.proofs.Common.{◌≡◌, ℕ, ◌<◌, Bool, true, false, not, ◌&&◌, eqb, List, [], ◌∷◌, ◌++◌, Option, Some, None, Result, Ok, Err, refl, sym, ap, subst, ◌∙◌, inl, inr, append_assoc, arith}
use Rattle.std.specs.List.{list_all, list_any}
use Rattle.std.specs.Str.{is_utf8}
use Rattle.std.proofs.lemmas.Bool.{cases_Bool, and_parts, or_parts, not-true, eqb-true}
use Rattle.std.proofs.lemmas.List.Folds.{list_any-append}
use Rattle.fp_base.specs.declared.key_rule.KeyRule.{KeyRule}
use Rattle.fp_keyfile.specs.Grammar.{is_blank, is_return, ends_so, is_name, is_key, is_value_byte, is_value}
use Rattle.fp_keyfile.specs.Lines.{trimmed_front, trimmed_end, split_at, Statement, nothing, header, entry, is_text, header_at, entry_with, entry_at, marked, text_says, line_says}
use Rattle.fp_keyfile.specs.KeyFile.{is_good_pair}
use Rattle.fp_keyfile.proofs.Good.{good_pair_from}
use Rattle.fp_keyfile.proofs.Texts

-- ---- tests of bytes

-- a text without newline and zero byte has the bytes of a value
value_bytes : (bs : List ℕ) → list_any (λ b. eqb b 10) bs ≡ false → list_any (λ b. eqb b 0) bs ≡ false → list_all is_value_byte bs ≡ true
value_bytes [] newline zeros = refl
value_bytes (b ∷ bs) newline zeros =
    let a = or_parts (eqb b 10) (list_any (λ b. eqb b 10) bs) newline in
    let z = or_parts (eqb b 0) (list_any (λ b. eqb b 0) bs) zeros in
    rw (a.0, z.0) (value_bytes bs a.1 z.1)

-- ---- what a line says is good

abbrev pub IsGoodStatement : Statement → Type 0
IsGoodStatement nothing = Unit {0}
IsGoodStatement (header name) = (is_name name ≡ true) × (is_utf8 name ≡ true)
IsGoodStatement (entry key value) = is_good_pair (record { key = key; value = value }) ≡ true

abbrev pub SaysGood : Result Statement KeyRule → Type 0
SaysGood (Ok s) = IsGoodStatement s
SaysGood (Err rule) = Unit {0}

-- a line without newline, and the text of such a line
pub record IsLineText (bs : List ℕ) : Type 0 where
  pub text : is_utf8 bs ≡ true
  pub newline : list_any (λ b. eqb b 10) bs ≡ false
  pub zeros : list_any (λ b. eqb b 0) bs ≡ false
  pub ends : ends_so is_return bs ≡ false

good_header_with : (bs name rest : List ℕ) → is_utf8 name ≡ true → SaysGood (header_at (Some (name, rest)))
good_header_with bs name rest u =
    elim (cases_Bool (is_name name && list_all is_blank rest)) [
      | inl e ↦ rw e ((and_parts (is_name name) (list_all is_blank rest) e).0, u)
      | inr e ↦ rw e tt
    ]

good_header_at : (bs : List ℕ) (found : Option (List ℕ × List ℕ)) → is_utf8 bs ≡ true → split_at 93 bs ≡ found → SaysGood (header_at found)
good_header_at bs None u h = tt
good_header_at bs (Some parts) u h =
    let s = Texts.SplitsAt-split_at 93 bs parts h in
    good_header_with bs parts.0 parts.1 (Texts.utf8_before parts.0 93 parts.1 (omega arith) (subst (λ (w : List ℕ). is_utf8 w ≡ true) s.whole u))

-- what stands before and after the first `=` of a line
good_entry_with : (before remainder : List ℕ) → IsLineText (before ++ (61 ∷ remainder)) → SaysGood (entry_with (trimmed_end is_blank before) (trimmed_front is_blank remainder))
good_entry_with before remainder t =
    let key = trimmed_end is_blank before in
    let value = trimmed_front is_blank remainder in
    let f = Texts.BeginsIn-trimmed_front is_blank remainder in
    let key_text : is_utf8 key ≡ true = Texts.utf8_kept_end is_blank Texts.ascii_blank before key (Texts.EndsIn-trimmed_end is_blank before) (Texts.utf8_before before 61 remainder (omega arith) t.text) in
    let value_text : is_utf8 value ≡ true = Texts.utf8_kept_front is_blank Texts.ascii_blank remainder value f (Texts.utf8_after before 61 remainder (omega arith) t.text) in
    let value_good : is_value value ≡ true = good_value before remainder f t in
    elim (cases_Bool (is_key key)) [
      | inl e ↦ rw e (good_pair_from (record { key = key; value = value }) (record { key = e; value = value_good; key_text = key_text; value_text = value_text }))
      | inr e ↦ rw e tt
    ]
  where
    ends_value : (front value : List ℕ) → ends_so is_return (front ++ value) ≡ false → ends_so is_return value ≡ false
    ends_value front [] h = refl
    ends_value front (v ∷ value) h = sym (Texts.ends_so-append is_return front v value) ∙ h

    none_in : (p : ℕ → Bool) (front value : List ℕ) → list_any p (front ++ value) ≡ false → list_any p value ≡ false
    none_in p front value h = (or_parts (list_any p front) (list_any p value) (sym (list_any-append p front value) ∙ h)).1

    good_value : (before remainder : List ℕ) → Texts.BeginsIn is_blank remainder (trimmed_front is_blank remainder) → IsLineText (before ++ (61 ∷ remainder)) → is_value (trimmed_front is_blank remainder) ≡ true
    good_value before remainder f t =
        let value = trimmed_front is_blank remainder in
        let whole : before ++ (61 ∷ remainder) ≡ (before ++ (61 ∷ f.front)) ++ value = ap (λ (w : List ℕ). before ++ (61 ∷ w)) f.parts ∙ sym (append_assoc before (61 ∷ f.front) value) in
        let newline : list_any (λ b. eqb b 10) value ≡ false = none_in (λ b. eqb b 10) (before ++ (61 ∷ f.front)) value (ap (list_any (λ b. eqb b 10)) (sym whole) ∙ t.newline) in
        let zeros : list_any (λ b. eqb b 0) value ≡ false = none_in (λ b. eqb b 0) (before ++ (61 ∷ f.front)) value (ap (list_any (λ b. eqb b 0)) (sym whole) ∙ t.zeros) in
        let ends : ends_so is_return value ≡ false = ends_value (before ++ (61 ∷ f.front)) value (ap (ends_so is_return) (sym whole) ∙ t.ends) in
        rw (value_bytes value newline zeros, Texts.begins_so-trimmed_front is_blank remainder, ends) refl

good_entry_at : (bs : List ℕ) (found : Option (List ℕ × List ℕ)) → IsLineText bs → split_at 61 bs ≡ found → SaysGood (entry_at found)
good_entry_at bs None t h = tt
good_entry_at bs (Some parts) t h =
    let s = Texts.SplitsAt-split_at 61 bs parts h in
    good_entry_with parts.0 parts.1 (subst IsLineText s.whole t)

good_marked : (bs : List ℕ) → IsLineText bs → SaysGood (marked bs)
good_marked [] t = tt
good_marked (b ∷ bs) t =
    elim (cases_Bool (eqb b 35)) [
      | inl e ↦ rw e tt
      | inr e ↦ elim (cases_Bool (eqb b 91)) [
        | inl f ↦
            let lt : b < 128 = omega (arith, eqb-true b 91 f) in
            rw (e, f) (good_header_at bs (split_at 93 bs) (Texts.utf8_after [] b bs lt t.text) refl)
        | inr f ↦ rw (e, f) (good_entry_at (b ∷ bs) (split_at 61 (b ∷ bs)) t refl)
      ]
    ]

good_text_says : (bs : List ℕ) → list_any (λ b. eqb b 10) bs ≡ false → ends_so is_return bs ≡ false → SaysGood (text_says bs)
good_text_says bs newline ends =
    elim (cases_Bool (is_text bs)) [
      | inl e ↦
          let a = and_parts (is_utf8 bs) (not (list_any (λ b. eqb b 0) bs)) e in
          elim (cases_Bool (list_all is_blank bs)) [
            | inl f ↦ rw (e, f) tt
            | inr f ↦ rw (e, f) (good_marked bs (record { text = a.0; newline = newline; zeros = not-true _ a.1; ends = ends }))
          ]
      | inr e ↦ rw e tt
    ]

pub good_line_says : (line : List ℕ) → list_any (λ b. eqb b 10) line ≡ false → SaysGood (line_says line)
unfolding line_says
good_line_says line newline =
    let h = Texts.EndsIn-trimmed_end is_return line in
    let text = trimmed_end is_return line in
    let none : list_any (λ b. eqb b 10) text ≡ false = (or_parts (list_any (λ b. eqb b 10) text) (list_any (λ b. eqb b 10) h.back) (sym (list_any-append (λ b. eqb b 10) text h.back) ∙ ap (list_any (λ b. eqb b 10)) (sym h.parts) ∙ newline)).0 in
    good_text_says text none (Texts.ends_so-trimmed_end is_return line)
