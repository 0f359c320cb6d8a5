-- Texts that can stand in a value: UTF-8, without newlines and zero bytes.
use Rattle.std.proofs.Common.{◌≡◌, ◌<◌, ℕ, Bool, true, false, not, List, [], ◌∷◌, ◌++◌, inl, inr, refl, sym, ap, subst, ◌∙◌, arith, append_assoc, append-nil}
use Rattle.std.specs.List.{list_all, AllByRecursion}
use Rattle.std.specs.Str.{is_utf8}
use Rattle.std.proofs.lemmas.Bool.{cases_Bool, and_parts, and_from, eqb-true, not-true}
use Rattle.std.proofs.lemmas.List.Folds.{list_all-append}
use Rattle.fp_keyfile.specs.Grammar.{is_blank, is_value_byte}
use Rattle.fp_keyfile.specs.Lines.{trimmed_front}
use Rattle.fp_keyfile.proofs.Texts.{BeginsIn-trimmed_front, ascii_blank, utf8_before, utf8_after, utf8_joined, utf8_kept_front, utf8_nil}
use Rattle.fl_meta.specs.Entries.{is_mark, without_mark}
use Rattle.fl_meta.specs.Separators.{is_semicolon, escapes_after, separates, entries_of}
use Rattle.fl_meta.proofs.Whole.{IsWhole, IsWhole-append, entries_cut, entries_whole}

pub record IsPlain (text : List ℕ) : Type 0 where
  pub utf8 : is_utf8 text ≡ true
  pub bytes : list_all is_value_byte text ≡ true

pub IsPlain-nil : IsPlain []
IsPlain-nil = record { utf8 = utf8_nil; bytes = refl }

pub IsPlain-before : (xs : List ℕ) (c : ℕ) (ys : List ℕ) → c < 128 → IsPlain (xs ++ c ∷ ys) → IsPlain xs
IsPlain-before xs c ys lt h = record {
  utf8 = utf8_before xs c ys lt h.utf8;
  bytes = (and_parts (list_all is_value_byte xs) (list_all is_value_byte (c ∷ ys)) (sym (list_all-append is_value_byte xs (c ∷ ys)) ∙ h.bytes)).0;
}

pub IsPlain-after : (xs : List ℕ) (c : ℕ) (ys : List ℕ) → c < 128 → IsPlain (xs ++ c ∷ ys) → IsPlain ys
IsPlain-after xs c ys lt h =
    let a = and_parts (list_all is_value_byte xs) (list_all is_value_byte (c ∷ ys)) (sym (list_all-append is_value_byte xs (c ∷ ys)) ∙ h.bytes) in
    record {
      utf8 = utf8_after xs c ys lt h.utf8;
      bytes = (and_parts (is_value_byte c) (list_all is_value_byte ys) a.1).1;
    }

pub IsPlain-joined : (xs : List ℕ) (c : ℕ) (ys : List ℕ) → c < 128 → is_value_byte c ≡ true → IsPlain xs → IsPlain ys → IsPlain (xs ++ c ∷ ys)
IsPlain-joined xs c ys lt e h k = record {
  utf8 = utf8_joined xs c ys lt h.utf8 k.utf8;
  bytes = list_all-append is_value_byte xs (c ∷ ys) ∙ and_from _ _ h.bytes (and_from (is_value_byte c) (list_all is_value_byte ys) e k.bytes);
}

-- ---- what is cut from a plain text is plain

all_suffix : (p : ℕ → Bool) (front kept xs : List ℕ) → xs ≡ front ++ kept → list_all p xs ≡ true → list_all p kept ≡ true
all_suffix p front kept xs e h = (and_parts (list_all p front) (list_all p kept) (sym (list_all-append p front kept) ∙ ap (list_all p) (sym e) ∙ h)).1

pub IsPlain-trimmed : (text : List ℕ) → IsPlain text → IsPlain (trimmed_front is_blank text)
IsPlain-trimmed text h =
    let b = BeginsIn-trimmed_front is_blank text in
    record {
      utf8 = utf8_kept_front is_blank ascii_blank text (trimmed_front is_blank text) b h.utf8;
      bytes = all_suffix is_value_byte b.front (trimmed_front is_blank text) text b.parts h.bytes;
    }

pub IsPlain-without_mark : (text : List ℕ) → IsPlain text → IsPlain (without_mark text)
IsPlain-without_mark [] h = h
IsPlain-without_mark (b ∷ bs) h =
    elim (cases_Bool (is_mark b)) [
      | inl e ↦ rw e (IsPlain-after [] b bs (let is : b ≡ 33 = eqb-true b 33 e in omega arith) h)
      | inr e ↦ rw e h
    ]

-- ---- the pieces of a value

-- what was read of a value so far is whole
pieces_from : (front rest : List ℕ) → IsWhole false front → is_utf8 (front ++ rest) ≡ true → list_all is_value_byte (front ++ rest) ≡ true → AllByRecursion IsPlain (entries_of (front ++ rest))
pieces_from front [] h u v =
    let same : front ++ [] ≡ front = append-nil front in
    let w : AllByRecursion IsPlain (front ∷ []) = (record { utf8 = ap is_utf8 (sym same) ∙ u; bytes = ap (list_all is_value_byte) (sym same) ∙ v }, tt) in
    subst (AllByRecursion IsPlain) (sym (ap entries_of same ∙ entries_whole false front h)) w
pieces_from front (b ∷ rest) h u v =
    elim (cases_Bool (separates (escapes_after false front) b)) [
      | inl e ↦
          let both = and_parts (is_semicolon b) (not (escapes_after false front)) e in
          let is : b ≡ 59 = eqb-true b 59 both.0 in
          let a = and_parts (list_all is_value_byte front) (list_all is_value_byte (b ∷ rest)) (sym (list_all-append is_value_byte front (b ∷ rest)) ∙ v) in
          let first : IsPlain front = record { utf8 = utf8_before front b rest (omega arith) u; bytes = a.0 } in
          let others : AllByRecursion IsPlain (entries_of rest) = pieces_from [] rest tt (utf8_after front b rest (omega arith) u) (and_parts (is_value_byte b) (list_all is_value_byte rest) a.1).1 in
          let all : AllByRecursion IsPlain (front ∷ entries_of rest) = (first, others) in
          subst (AllByRecursion IsPlain) (sym (ap (λ c. entries_of (front ++ c ∷ rest)) is ∙ entries_cut false front rest h (not-true _ both.1))) all
      | inr e ↦
          let moved : (front ++ b ∷ []) ++ rest ≡ front ++ b ∷ rest = append_assoc front (b ∷ []) rest in
          let whole : IsWhole false (front ++ b ∷ []) = IsWhole-append false front (b ∷ []) h (e, tt) in
          subst (λ w. AllByRecursion IsPlain (entries_of w)) moved (pieces_from (front ++ b ∷ []) rest whole (ap is_utf8 moved ∙ u) (ap (list_all is_value_byte) moved ∙ v))
    ]

pub plain_pieces : (value : List ℕ) → is_utf8 value ≡ true → list_all is_value_byte value ≡ true → AllByRecursion IsPlain (entries_of value)
plain_pieces value u v = pieces_from [] value tt u v
