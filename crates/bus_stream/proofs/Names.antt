-- Names are ASCII, and so they are texts.
use Rattle.std.proofs.Common.{◌≡◌, ◌==◌, ℕ, ◌<◌, Bool, true, List, [], ◌∷◌, length, refl, sym, ap, subst, ◌∙◌, inl, inr, arith}
use Rattle.std.specs.Prelude.{not, ◌&&◌, ◌||◌, nat_le}
use Rattle.std.specs.List.{list_all, list_any, slice_split, onto_first}
use Rattle.std.specs.Str.{IsUtf8, IsAscii}
use Rattle.std.proofs.lemmas.Bool.{eqb-true, and_parts, and_from, cases_Bool, false≢true}
use Rattle.std.proofs.lemmas.List.Splits.{slice_split-cons_yes, slice_split-cons_no}
use Rattle.std.proofs.lemmas.Str.{IsUtf8-from_ascii}
use Rattle.std.proofs.lemmas.Str.Ascii.{IsAscii-nil, IsAscii-cons}
use Rattle.bus_frame.specs.declared.limits.TheConstants.{MOST_NAME_BYTES}
use Rattle.bus_frame.specs.declared.names.Alphabet.{Alphabet}
use Rattle.bus_frame.specs.declared.names.Alphabet.TheVariants.{WellKnown, Unique}
use Rattle.bus_frame.specs.Names.{continues_element, begins_element, has_first_digit, is_digit, is_element, are_elements, is_dotted, is_unique, is_well_known}

is_ascii : (a : Alphabet) (c : ℕ) → continues_element a c ≡ true → c < 128
is_ascii a c h = grind arith

abbrev continue : Alphabet → List ℕ → Bool
continue a = list_all (continues_element a)

first_continues : (a : Alphabet) (c : ℕ) (parts : List (List ℕ)) → list_all (continue a) (onto_first c parts) ≡ true → (continues_element a c ≡ true) × (list_all (continue a) parts ≡ true)
first_continues a c [] h =
    let outer = and_parts (continues_element a c && true) true h in
    ((and_parts (continues_element a c) true outer.0).0, refl)
first_continues a c (part ∷ parts) h =
    let outer = and_parts (continues_element a c && continue a part) (list_all (continue a) parts) h in
    let inner = and_parts (continues_element a c) (continue a part) outer.0 in
    (inner.0, and_from (continue a part) (list_all (continue a) parts) inner.1 outer.1)

are_ascii : (a : Alphabet) (separator : ℕ) → separator < 128 → (bytes : List ℕ) → list_all (continue a) (slice_split (λ c. c == separator) bytes) ≡ true → IsAscii bytes
are_ascii a separator l [] h = IsAscii-nil
are_ascii a separator l (c ∷ cs) h =
    let parts = slice_split (λ x. x == separator) cs in
    elim (cases_Bool (c == separator)) [
      | inl e ↦
          IsAscii-cons c cs (subst (λ x. x < 128) (sym (eqb-true c separator e)) l)
          (are_ascii a separator l cs (sym (ap (list_all (continue a)) (slice_split-cons_yes (λ x. x == separator) c cs e)) ∙ h))
      | inr e ↦
          let both = first_continues a c parts (sym (ap (list_all (continue a)) (slice_split-cons_no (λ x. x == separator) c cs e)) ∙ h) in
          IsAscii-cons c cs (is_ascii a c both.0) (are_ascii a separator l cs both.1)
    ]

elements_continue : (a : Alphabet) (parts : List (List ℕ)) → list_all (is_element a) parts ≡ true → list_all (continue a) parts ≡ true
elements_continue a [] h = refl
elements_continue a ([] ∷ parts) h = absurd (false≢true h)
elements_continue a ((c ∷ cs) ∷ parts) h =
    let outer = and_parts (is_element a (c ∷ cs)) (list_all (is_element a) parts) h in
    let inner = and_parts (begins_element a c) (continue a cs) outer.0 in
    let first = (and_parts (continues_element a c) (has_first_digit a || not (is_digit c)) inner.0).0 in
    and_from (continue a (c ∷ cs)) (list_all (continue a) parts) (and_from (continues_element a c) (continue a cs) first inner.1) (elements_continue a parts outer.1)

dotted_is_ascii : (a : Alphabet) (bytes : List ℕ) → is_dotted a bytes ≡ true → IsAscii bytes
dotted_is_ascii a bytes h =
    let both = and_parts (list_any (λ c. c == 46) bytes) (are_elements a 46 bytes) h in
    are_ascii a 46 (omega arith) bytes (elements_continue a (slice_split (λ c. c == 46) bytes) both.1)

pub IsUtf8-from_unique : (bytes : List ℕ) → is_unique bytes ≡ true → IsUtf8 bytes
unfolding is_unique
IsUtf8-from_unique [] h = absurd (false≢true h)
IsUtf8-from_unique (c ∷ name) h =
    let outer = and_parts (c == 58 && nat_le (length (c ∷ name)) MOST_NAME_BYTES) (is_dotted Unique name) h in
    let first = eqb-true c 58 (and_parts (c == 58) (nat_le (length (c ∷ name)) MOST_NAME_BYTES) outer.0).0 in
    IsUtf8-from_ascii (c ∷ name) (IsAscii-cons c name (omega (arith, first)) (dotted_is_ascii Unique name outer.1))

pub IsUtf8-from_well_known : (bytes : List ℕ) → is_well_known bytes ≡ true → IsUtf8 bytes
unfolding is_well_known
IsUtf8-from_well_known bytes h = IsUtf8-from_ascii bytes (dotted_is_ascii WellKnown bytes (and_parts _ (is_dotted WellKnown bytes) h).1)
