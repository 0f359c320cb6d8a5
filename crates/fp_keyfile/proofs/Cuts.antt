-- What the code's searches give, in the words of the definitions.
use Rattle.std.proofs.Common.{◌≡◌, ◌≢◌, ℕ, suc, ◌+◌, ◌<◌, true, false, eqb, List, [], ◌∷◌, length, get_or, take, drop, Option, Some, None, Ok, Err, ◌&&◌, MatchOption, refl, sym, ap, ◌∙◌, inl, inr, arith}
use denote.Ref.{Bor}
use Rattle.std.specs.Prelude.{option_map}
use Rattle.std.specs.List.{list_all, list_any, position}
use Rattle.std.specs.Str.{is_utf8, IsUtf8}
use Rattle.std.proofs.lemmas.Bool.{ne_eqb, false_from_ne_true}
use Rattle.std.proofs.lemmas.Str.{IsUtf8-from_is_utf8, is_utf8-from_IsUtf8}
use Rattle.std.proofs.lemmas.Str.Pattern.{IsSplitOnceResult, split_parts}
use Rattle.fp_base.specs.declared.key_rule.KeyRule.TheVariants as rules
use Rattle.fp_keyfile.specs.Grammar.{is_blank, is_return, is_name, is_key}
use Rattle.fp_keyfile.specs.Lines.{byte_before, lines_of, trimmed_front, trimmed_end, split_at, nothing, header, entry, header_at, header_of, entry_at, entry_of, marked, line_says}
use Rattle.fp_keyfile.proofs.Texts.{split_at_found, split_at_none}
use Rattle.fp_keyfile.proofs.FirstPlace.{at_place, at_none}

none_by_index : (c : ℕ) (bs : List ℕ) → ((i : ℕ) → i < length bs → get_or bs i 0 ≢ c) → list_any (λ b. eqb b c) bs ≡ false
none_by_index c [] h = refl
none_by_index c (b ∷ bs) h = rw (ne_eqb b c (h 0 (omega arith))) (none_by_index c bs (λ i lt. h (suc i) (omega arith)))

-- `split_once` at an ASCII character
pub split_once_is : (c : ℕ) (bs : List ℕ) (r : Option (Bor (List ℕ) × Bor (List ℕ))) → IsSplitOnceResult c bs r → c < 128 → MatchOption r (split_at c bs ≡ None) (λ x. split_at c bs ≡ Some (x.0.now, x.1.now))
split_once_is c bs None h lt = split_at_none c bs (none_by_index c bs (split_parts c bs None h lt))
split_once_is c bs (Some x) h lt =
    let p = split_parts c bs (Some x) h lt in
    ap (split_at c) p.0 ∙ split_at_found c x.0.now x.1.now (none_by_index c x.0.now p.1)

pub cut_is : (text : List ℕ) (r : Option (Bor (List ℕ) × Bor (List ℕ))) → MatchOption r (split_at 61 text ≡ None) (λ x. split_at 61 text ≡ Some (x.0.now, x.1.now)) → option_map (λ x. (x.0.now, x.1.now)) r ≡ split_at 61 text
cut_is text None h = sym h
cut_is text (Some x) h = sym h

lines_of-remainder : (b : ℕ) (bytes : List ℕ) (end : ℕ) → eqb b 10 ≡ false → lines_of bytes ≡ take end bytes ∷ lines_of (drop (end + 1) bytes) → lines_of (b ∷ bytes) ≡ take (suc end) (b ∷ bytes) ∷ lines_of (drop (suc end + 1) (b ∷ bytes))
lines_of-remainder b bytes end e h =
    let one : suc end + 1 ≡ suc (end + 1) = omega arith in
    rw (one, e, h) refl

-- where the first newline stands
pub lines_of-at : (bytes : List ℕ) (end : ℕ) → position (λ b. eqb b 10) bytes ≡ Some end → lines_of bytes ≡ take end bytes ∷ lines_of (drop (end + 1) bytes)
lines_of-at [] end h = absurd cc
lines_of-at (b ∷ bytes) end h =
    elim (at_place (λ x. eqb x 10) b bytes end h) [
      | inl here ↦ rw (here.1, here.0) refl
      | inr next ↦ rw next.1.is (lines_of-remainder b bytes next.1.before next.0 (lines_of-at bytes next.1.before next.1.place))
    ]

-- where there is none
pub lines_of-last : (bytes : List ℕ) → 0 < length bytes → position (λ b. eqb b 10) bytes ≡ None → lines_of bytes ≡ bytes ∷ []
lines_of-last [] pos h = absurd (omega arith)
lines_of-last (b ∷ []) pos h = rw (at_none (λ x. eqb x 10) b [] h).0 refl
lines_of-last (b ∷ c ∷ bytes) pos h =
    let a = at_none (λ x. eqb x 10) b (c ∷ bytes) h in
    ap (byte_before b) (lines_of-last (c ∷ bytes) (omega arith) a.1) ∙ rw a.0 refl

-- ---- a group line after its `[`, and the line of a pair

pub header_found : (bs name rest : List ℕ) → split_at 93 bs ≡ Some (name, rest) → is_name name ≡ true → list_all is_blank rest ≡ true → Ok (header name) ≡ header_of bs
header_found bs name rest cut good blank = sym (ap header_at cut ∙ rw (good, blank) refl)

pub header_refused : (bs name rest : List ℕ) → split_at 93 bs ≡ Some (name, rest) → (is_name name && list_all is_blank rest) ≡ false → Err rules.Group ≡ header_of bs
header_refused bs name rest cut bad = sym (ap header_at cut ∙ rw bad refl)

pub entry_found : (bs before remainder key value : List ℕ) → split_at 61 bs ≡ Some (before, remainder) → key ≡ trimmed_end is_blank before → value ≡ trimmed_front is_blank remainder → is_key key ≡ true → Ok (entry key value) ≡ entry_of bs
entry_found bs before remainder key value cut k v good = sym (ap entry_at cut ∙ rw (← k, ← v, good) refl)

pub entry_refused : (bs before remainder key : List ℕ) → split_at 61 bs ≡ Some (before, remainder) → key ≡ trimmed_end is_blank before → is_key key ≡ false → Err rules.Key ≡ entry_of bs
entry_refused bs before remainder key cut k bad = sym (ap entry_at cut ∙ rw (← k, bad) refl)

-- ---- a whole line

-- the text of a line that is UTF-8
pub record IsTextOf (line text : List ℕ) : Type 0 where
  pub is : text ≡ trimmed_end is_return line
  pub utf8 : IsUtf8 text

pub line_no_text : (line text : List ℕ) → text ≡ trimmed_end is_return line → (IsUtf8 text → ⊥) → Err rules.Text ≡ line_says line
unfolding line_says
line_no_text line text is h =
    let none : is_utf8 text ≡ false = false_from_ne_true (is_utf8 text) (λ t. h (IsUtf8-from_is_utf8 text t)) in
    rw (← is, none) refl

pub line_zero : (line text : List ℕ) → IsTextOf line text → list_any (λ b. eqb b 0) text ≡ true → Err rules.Text ≡ line_says line
unfolding line_says
line_zero line text t zeros = rw (← t.is, is_utf8-from_IsUtf8 text t.utf8, zeros) refl

pub line_blank : (line text : List ℕ) → IsTextOf line text → list_any (λ b. eqb b 0) text ≡ false → list_all is_blank text ≡ true → Ok nothing ≡ line_says line
unfolding line_says
line_blank line text t zeros blank = rw (← t.is, is_utf8-from_IsUtf8 text t.utf8, zeros, blank) refl

pub line_marked : (line text : List ℕ) → IsTextOf line text → list_any (λ b. eqb b 0) text ≡ false → list_all is_blank text ≡ false → marked text ≡ line_says line
unfolding line_says
line_marked line text t zeros blank = rw (← t.is, is_utf8-from_IsUtf8 text t.utf8, zeros, blank) refl
