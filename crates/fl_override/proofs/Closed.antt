-- Names that a `;` after them ends.
use Rattle.std.proofs.Common.{◌≡◌, ℕ, Bool, true, false, List, [], ◌∷◌, drop, inl, inr, refl, sym, ap, subst, ◌∙◌}
use Rattle.std.specs.Prelude.{codes}
use Rattle.std.specs.List.{list_any}
use Rattle.std.proofs.lemmas.Bool.{cases_Bool, eqb-true, false≢true, or_parts, and_parts}
use Rattle.fp_keyfile.specs.Grammar.{is_blank, begins_so}
use Rattle.fp_keyfile.specs.Lines.{trimmed_front}
use Rattle.fl_meta.specs.declared.permission.Value.{Value}
use Rattle.fl_meta.specs.declared.permission.Value.TheVariants as values
use Rattle.fl_meta.specs.Places.{is_slash, is_colon, is_dot, is_ending, says_nothing, begins_dotted, slash_with, normal_with, normal, rooted, place_in}
use Rattle.fl_meta.specs.Entries.{is_mark, without_mark}
use Rattle.fl_meta.specs.Separators.{is_semicolon, is_backslash, escapes, ends_escaped, separates}
use Rattle.fl_meta.proofs.Normal.{rooted-cons}
use Rattle.fl_meta.proofs.Whole.{IsWhole, IsWhole-append, escapes_after-append}
use Rattle.fl_override.specs.Written.{entry_with}

pub record IsClosed (text : List ℕ) : Type 0 where
  pub whole : IsWhole false text
  pub ends : ends_escaped text ≡ false

-- a byte that is no backslash escapes nothing
resets : (p : ℕ → Bool) (b : ℕ) → p 92 ≡ false → p b ≡ true → (escaped : Bool) → escapes escaped b ≡ false
resets p b e f escaped = elim (cases_Bool (is_backslash b)) [
  | inl g ↦ absurd (false≢true (sym e ∙ ap p (sym (eqb-true b 92 g)) ∙ f))
  | inr g ↦ rw g refl
]

-- ---- what is cut from a whole text is whole

cut_whole : (p : ℕ → Bool) (b : ℕ) (bs : List ℕ) → p 92 ≡ false → p b ≡ true → IsWhole false (b ∷ bs) → IsWhole false bs
cut_whole p b bs e f h = subst (λ s. IsWhole s bs) (resets p b e f false) h.1

pub trimmed_whole : (text : List ℕ) → IsWhole false text → IsWhole false (trimmed_front is_blank text)
trimmed_whole [] h = h
trimmed_whole (b ∷ bs) h = elim (cases_Bool (is_blank b)) [
  | inl e ↦ rw e (trimmed_whole bs (cut_whole is_blank b bs refl e h))
  | inr e ↦ rw e h
]

pub mark_whole : (text : List ℕ) → IsWhole false text → IsWhole false (without_mark text)
mark_whole [] h = h
mark_whole (b ∷ bs) h = elim (cases_Bool (is_mark b)) [
  | inl e ↦ rw e (cut_whole is_mark b bs refl e h)
  | inr e ↦ rw e h
]

pub none_whole : (escaped : Bool) (text : List ℕ) → list_any is_semicolon text ≡ false → IsWhole escaped text
none_whole escaped [] h = tt
none_whole escaped (b ∷ bs) h =
    let a = or_parts (is_semicolon b) (list_any is_semicolon bs) h in
    (rw a.0 refl, none_whole (escapes escaped b) bs a.1)

-- ---- the place that a whole text names

-- before a `/` it plays no part what escapes
before_slash : (escaped other : Bool) (text : List ℕ) → begins_so is_slash text ≡ true → IsWhole escaped text → IsWhole other text
before_slash escaped other [] e h = tt
before_slash escaped other (b ∷ bs) e h =
    let is : b ≡ 47 = eqb-true b 47 e in
    let rest : IsWhole false bs = subst (λ s. IsWhole s bs) (resets is_slash b refl e escaped) h.1 in
    (ap (separates other) is, subst (λ s. IsWhole s bs) (sym (resets is_slash b refl e other)) rest)

dotted_whole : (escaped : Bool) (text : List ℕ) → begins_dotted text ≡ true → IsWhole false text → IsWhole escaped (drop 1 text)
dotted_whole escaped [] e h = absurd (false≢true e)
dotted_whole escaped (b ∷ bs) e h = before_slash (escapes false b) escaped bs (and_parts (is_dot b) (begins_so is_slash bs) e).1 h.1

slash_whole : (escaped : Bool) (r : List ℕ) → IsWhole false r → IsWhole escaped (slash_with r)
slash_whole escaped r h =
    elim (cases_Bool (says_nothing r)) [
      | inl e ↦ rw e tt
      | inr e ↦ elim (cases_Bool (begins_so is_slash r)) [
        | inl f ↦ rw (e, f) (before_slash false escaped r f h)
        | inr f ↦ elim (cases_Bool (begins_dotted r)) [
          | inl g ↦ rw (e, f, g) (dotted_whole escaped r g h)
          | inr g ↦ rw (e, f, g) (refl, h)
        ]
      ]
    ]

with_whole : (escaped : Bool) (b : ℕ) (r : List ℕ) → separates escaped b ≡ false → IsWhole (escapes escaped b) r → IsWhole escaped (normal_with b r)
with_whole escaped b r first h =
    elim (cases_Bool (is_slash b)) [
      | inl e ↦ rw e (slash_whole escaped r (subst (λ s. IsWhole s r) (resets is_slash b refl e escaped) h))
      | inr e ↦ elim (cases_Bool (is_colon b)) [
        | inl f ↦
            let rest : IsWhole false r = subst (λ s. IsWhole s r) (resets is_colon b refl f escaped) h in
            elim (cases_Bool (is_ending r)) [
              | inl g ↦ rw (e, f, g) tt
              | inr g ↦ rw (e, f, g) (refl, rest)
            ]
        | inr f ↦ rw (e, f) (first, h)
      ]
    ]

normal_whole : (escaped : Bool) (text : List ℕ) → IsWhole escaped text → IsWhole escaped (normal text)
unfolding normal
normal_whole escaped [] h = h
normal_whole escaped (b ∷ bs) h = with_whole escaped b (normal bs) h.0 (normal_whole (escapes escaped b) bs h.1)

pub place_whole : (text : List ℕ) → IsWhole false text → IsWhole false (place_in text)
place_whole text h = by (begins_so is_slash text) (normal text) (normal_whole false text h)
  where
    by : (absolute : Bool) (n : List ℕ) → IsWhole false n → IsWhole false (rooted absolute n)
    by true [] k = (refl, tt)
    by false [] k = tt
    by absolute (b ∷ bs) k = subst (IsWhole false) (sym (rooted-cons absolute b bs)) k

-- ---- an entry with the name

pub closed_with : (value : Value) (name : List ℕ) → IsClosed name → IsClosed (entry_with value name)
closed_with values.Off name h = record { whole = (refl, h.whole); ends = h.ends }
closed_with values.Ro name h = record {
  whole = IsWhole-append false name (codes ":ro") h.whole (refl, (refl, (refl, tt)));
  ends = escapes_after-append false name (codes ":ro");
}
closed_with values.Create name h = record {
  whole = IsWhole-append false name (codes ":create") h.whole (refl, (refl, (refl, (refl, (refl, (refl, (refl, tt)))))));
  ends = escapes_after-append false name (codes ":create");
}
closed_with value name h = h
