-- Rows that are gathered place by place.
use Rattle.std.proofs.Common.{◌≡◌, inl, inr, ℕ, List, [], ◌∷◌, map, true, false, Option, Some, refl, sym, ◌∙◌, ap}
use Rattle.std.specs.Prelude.{if◌then◌else◌, String, string_bytes}
use Rattle.std.specs.declared.cmp.Ordering.{Ordering}
use Rattle.std.specs.declared.cmp.Ordering.TheVariants.{Less, Equal, Greater}
use Rattle.std.specs.Ordering.{is_lt, is_eq, nat_cmp, match_ordering}
use Rattle.std.specs.Cmp.Lexicographic.{slice_cmp}
use Rattle.std.specs.List.{AllByRecursion}
use Rattle.std.specs.List.Sorted.{IsStrictlySortedBy}
use Rattle.std.specs.Str.{bytes_eq}
use Rattle.std.specs.String.{string_cmp}
use Rattle.std.specs.BTreeMap.{insert_entry}
use Rattle.std.specs.Map.{keys_of, values_of}
use Rattle.std.proofs.lemmas.Bool.{cases_Bool, and_from, both_ways}
use Rattle.std.proofs.lemmas.Map.Text.{is_eq-slice_cmp}
use Rattle.std.proofs.lemmas.Slice.Eq.{bytes_eq-Decides}
use Rattle.fp_base.proofs.Texts.{bytes_eq-true}
use Rattle.fp_host.specs.Reads.{comes_first, is_ascending}
use Rattle.dep_states.specs.Shown.{at_name}
use Rattle.dep_open.specs.Parts.{IsKeyed}

module _ {Z T : Type 0} (name : T → List ℕ) where
  equal_texts : (a b : String Z) → string_cmp a b ≡ Equal → string_bytes a ≡ string_bytes b
  equal_texts a b h = (bytes_eq-Decides (string_bytes a) (string_bytes b)).0 (sym (is_eq-slice_cmp (string_bytes a) (string_bytes b)) ∙ ap is_eq h)

  same_texts : (a b : String Z) → string_bytes a ≡ string_bytes b → string_cmp a b ≡ Greater → ⊥
  same_texts a b same h =
      let yes : bytes_eq (string_bytes a) (string_bytes b) ≡ true = (bytes_eq-Decides (string_bytes a) (string_bytes b)).1 same in
      both_ways (bytes_eq (string_bytes a) (string_bytes b)) (sym (is_eq-slice_cmp (string_bytes a) (string_bytes b)) ∙ ap is_eq h) yes

  module _ (key : String Z) (row : T) (known : string_bytes key ≡ name row) where
    -- what is found at a name
    abbrev found : List T → List ℕ → Option T
    found rows t = at_name name rows t

    found_by : (e : String Z × T) (es : List (String Z × T)) (o : Ordering) → string_cmp key e.0 ≡ o → IsKeyed name e → (t : List ℕ)
        → found (values_of (insert_entry string_cmp es key row)) t ≡ (if bytes_eq (name row) t then Some row else found (values_of es) t)
        → found (values_of (match_ordering o ((key, row) ∷ (e ∷ es)) ((e.0, row) ∷ es) (e ∷ insert_entry string_cmp es key row))) t
        ≡ (if bytes_eq (name row) t then Some row else found (values_of (e ∷ es)) t)
    found_by e es Less h one t more = refl
    found_by e es Equal h one t more =
        let same : name row ≡ name e.1 = sym known ∙ equal_texts key e.0 h ∙ one in
        elim (cases_Bool (bytes_eq (name row) t)) [
          | inl here ↦ rw here refl
          | inr off ↦ let other : bytes_eq (name e.1) t ≡ false = ap (λ (x : List ℕ). bytes_eq x t) (sym same) ∙ off in rw (off, other) refl
        ]
    found_by e es Greater h one t more = elim (cases_Bool (bytes_eq (name e.1) t)) [
      | inl here ↦ elim (cases_Bool (bytes_eq (name row) t)) [
        | inl both ↦ absurd (same_texts key e.0 (known ∙ bytes_eq-true (name row) t both ∙ sym (bytes_eq-true (name e.1) t here) ∙ sym one) h)
        | inr off ↦ rw (here, off) refl
      ]
      | inr other ↦ rw other (more)
    ]

    pub found_put : (es : List (String Z × T)) → AllByRecursion (IsKeyed name) es → (t : List ℕ) → found (values_of (insert_entry string_cmp es key row)) t ≡ (if bytes_eq (name row) t then Some row else found (values_of es) t)
    found_put [] all t = refl
    found_put (e ∷ es) all t = found_by e es (string_cmp key e.0) refl all.0 t (found_put es all.1 t)

    keyed_by : (e : String Z × T) (es : List (String Z × T)) (o : Ordering) → string_cmp key e.0 ≡ o → IsKeyed name e → AllByRecursion (IsKeyed name) es → AllByRecursion (IsKeyed name) (insert_entry string_cmp es key row)
        → AllByRecursion (IsKeyed name) (match_ordering o ((key, row) ∷ (e ∷ es)) ((e.0, row) ∷ es) (e ∷ insert_entry string_cmp es key row))
    keyed_by e es Less h one rest more = (known, (one, rest))
    keyed_by e es Equal h one rest more = (sym (equal_texts key e.0 h) ∙ known, rest)
    keyed_by e es Greater h one rest more = (one, more)

    pub keyed_put : (es : List (String Z × T)) → AllByRecursion (IsKeyed name) es → AllByRecursion (IsKeyed name) (insert_entry string_cmp es key row)
    keyed_put [] all = (known, tt)
    keyed_put (e ∷ es) all = keyed_by e es (string_cmp key e.0) refl all.0 all.1 (keyed_put es all.1)

    module _ (P : T → Type 0) (good : P row) where
      each_by : (e : String Z × T) (es : List (String Z × T)) (o : Ordering) → P e.1 → AllByRecursion P (values_of es) → AllByRecursion P (values_of (insert_entry string_cmp es key row))
          → AllByRecursion P (values_of (match_ordering o ((key, row) ∷ (e ∷ es)) ((e.0, row) ∷ es) (e ∷ insert_entry string_cmp es key row)))
      each_by e es Less one rest more = (good, (one, rest))
      each_by e es Equal one rest more = (good, rest)
      each_by e es Greater one rest more = (one, more)

      pub each_put : (es : List (String Z × T)) → AllByRecursion P (values_of es) → AllByRecursion P (values_of (insert_entry string_cmp es key row))
      each_put [] all = (good, tt)
      each_put (e ∷ es) all = each_by e es (string_cmp key e.0) all.0 all.1 (each_put es all.1)

  -- in the order of the names
  first_name : (e : String Z × T) (es : List (String Z × T)) → IsKeyed name e → AllByRecursion (IsKeyed name) es → AllByRecursion (λ y. string_cmp e.0 y ≡ Less) (keys_of es) → comes_first (name e.1) (map name (values_of es)) ≡ true
  first_name e [] one all low = refl
  first_name e (f ∷ es) one all low = (λ i. is_lt (slice_cmp nat_cmp (sym one i) (sym all.0 i))) ∙ ap is_lt low.0

  pub ascending : (es : List (String Z × T)) → AllByRecursion (IsKeyed name) es → IsStrictlySortedBy string_cmp (keys_of es) → is_ascending (map name (values_of es)) ≡ true
  unfolding IsStrictlySortedBy
  ascending [] all sorted = refl
  ascending (e ∷ es) all sorted =
      and_from (comes_first (name e.1) (map name (values_of es))) (is_ascending (map name (values_of es))) (first_name e es all.0 all.1 sorted.0) (ascending es all.1 sorted.1)
