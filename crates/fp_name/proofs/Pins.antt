-- The texts of patterns.
use Rattle.std.proofs.Common.{◌≡◌, ℕ, Bool, true, false, ◌&&◌, ◌||◌, List, [], lit<, Option, Some, None, codes, refl, sym, ap, ◌∙◌, ⊎_elim}
use Rattle.std.specs.List.{slice_split, join_with_byte, list_all}
use Rattle.std.specs.Str.{bytes_eq, IsAscii, IsUtf8}
use Rattle.std.proofs.lemmas.Bool.{and_parts, and_from, or_cases, or_right, both_ways, false≢true, false_from_ne_true}
use Rattle.std.proofs.lemmas.List.Splits.{join_with_byte-slice_split}
use Rattle.std.proofs.lemmas.Slice.Eq.{bytes_eq-Decides}
use Rattle.std.proofs.lemmas.Str.{IsUtf8-from_ascii}
use Rattle.std.proofs.lemmas.Str.Ascii.{IsAscii-cons, IsAscii-nil}
use Rattle.fp_name.specs.declared.kind.RefKind.{RefKind}
use Rattle.fp_name.specs.declared.kind.RefKind.TheVariants.{App, Runtime}
use Rattle.fp_name.specs.Bytes.{is_slash, is_dotted}
use Rattle.fp_name.specs.Grammar.{is_id, is_arch, is_branch}
use Rattle.fp_name.specs.Refs.{Ref, is_ref, ref_text, parts_of}
use Rattle.fp_name.specs.Pins.{is_star, are_pin_parts, is_pin, same_kind, part_matches, parts_match, pin_matches}
use Rattle.fp_name.proofs.Bytes.{dotted_id, dotted_arch, dotted_branch, Ascii-from_dotted}
use Rattle.fp_name.proofs.Refs.{parts_good, parts_are, parts_back, Ascii-joined}

Ascii-star : (part : List ℕ) → is_star part ≡ true → IsAscii part
Ascii-star part h = rw ((bytes_eq-Decides part (codes "*")).0 h) (IsAscii-cons 42 [] (lit< tt) IsAscii-nil)

-- a part that is `*` or passes a grammar of ASCII bytes
Ascii-part : (passes : List ℕ → Bool) (part : List ℕ) → (passes part ≡ true → list_all is_dotted part ≡ true) → (is_star part || passes part) ≡ true → IsAscii part
Ascii-part passes part dotted h =
    ⊎_elim (Ascii-star part) (λ good. Ascii-from_dotted part (dotted good)) (or_cases (is_star part) (passes part) h)

pin_text_by : (text : List ℕ) (o : Option Ref) → parts_of text ≡ o → are_pin_parts o ≡ true → IsAscii text
pin_text_by text None e h = absurd (false≢true h)
pin_text_by text (Some p) e h =
    let first = and_parts (is_star p.id || is_id p.id) ((is_star p.arch || is_arch p.arch) && (is_star p.branch || is_branch p.branch)) h in
    let others = and_parts (is_star p.arch || is_arch p.arch) (is_star p.branch || is_branch p.branch) first.1 in
    let whole : text ≡ ref_text p = sym (join_with_byte-slice_split 47 text) ∙ ap (join_with_byte 47) (parts_are (slice_split is_slash text) p e) in
    rw whole (Ascii-joined p (Ascii-part is_id p.id (dotted_id p.id) first.0) (Ascii-part is_arch p.arch (dotted_arch p.arch) others.0) (Ascii-part is_branch p.branch (dotted_branch p.branch) others.1))

pub no_text_no_pin : (text : List ℕ) → (IsUtf8 text → ⊥) → is_pin text ≡ false
unfolding is_pin
no_text_no_pin text bad =
    false_from_ne_true (are_pin_parts (parts_of text)) (λ good. bad (IsUtf8-from_ascii text (pin_text_by text (parts_of text) refl good)))

-- ---- a ref is a pattern that matches itself alone

no_star : (part : List ℕ) → list_all is_dotted part ≡ true → is_star part ≡ false
no_star part dotted =
    false_from_ne_true (is_star part) (λ star. false≢true (ap (list_all is_dotted) (sym ((bytes_eq-Decides part (codes "*")).0 star)) ∙ dotted))

pub pin_ref : (r : Ref) → is_ref r ≡ true → is_pin (ref_text r) ≡ true
unfolding is_pin
pin_ref r good =
    let parts = parts_good r good in
    ap are_pin_parts (parts_back r parts)
    ∙ and_from _ _ (or_right (is_star r.id) (is_id r.id) parts.id)
    (and_from _ _ (or_right (is_star r.arch) (is_arch r.arch) parts.arch) (or_right (is_star r.branch) (is_branch r.branch) parts.branch))

-- a part without `*` matches itself alone
part_is : (pattern part : List ℕ) → list_all is_dotted pattern ≡ true → part_matches pattern part ≡ true → part ≡ pattern
part_is pattern part dotted h =
    ⊎_elim (λ star. absurd (both_ways (is_star pattern) (no_star pattern dotted) star)) (λ same. sym ((bytes_eq-Decides pattern part).0 same))
    (or_cases (is_star pattern) (bytes_eq pattern part) h)

kind_same : (a b : RefKind) → same_kind a b ≡ true → b ≡ a
kind_same App App h = refl
kind_same App Runtime h = cc h
kind_same Runtime App h = cc h
kind_same Runtime Runtime h = refl

kind_itself : (a : RefKind) → same_kind a a ≡ true
kind_itself App = refl
kind_itself Runtime = refl

part_itself : (part : List ℕ) → part_matches part part ≡ true
part_itself part = or_right (is_star part) (bytes_eq part part) ((bytes_eq-Decides part part).1 refl)

same_parts : {a b : Ref} → a.kind ≡ b.kind → a.id ≡ b.id → a.arch ≡ b.arch → a.branch ≡ b.branch → a ≡ b
same_parts k i a b = λ t. record { kind = k t; id = i t; arch = a t; branch = b t }

matches_alone : (r s : Ref) → is_ref r ≡ true → parts_match (Some r) s ≡ true → s ≡ r
matches_alone r s good h =
    let parts = parts_good r good in
    let kind = and_parts (same_kind r.kind s.kind) (part_matches r.id s.id && (part_matches r.arch s.arch && part_matches r.branch s.branch)) h in
    let id = and_parts (part_matches r.id s.id) (part_matches r.arch s.arch && part_matches r.branch s.branch) kind.1 in
    let arch = and_parts (part_matches r.arch s.arch) (part_matches r.branch s.branch) id.1 in
    same_parts (kind_same r.kind s.kind kind.0) (part_is r.id s.id (dotted_id r.id parts.id) id.0) (part_is r.arch s.arch (dotted_arch r.arch parts.arch) arch.0) (part_is r.branch s.branch (dotted_branch r.branch parts.branch) arch.1)

matches_itself : (r : Ref) → parts_match (Some r) r ≡ true
matches_itself r =
    and_from _ _ (kind_itself r.kind) (and_from _ _ (part_itself r.id) (and_from _ _ (part_itself r.arch) (part_itself r.branch)))

pub pin_matches-ref : (r s : Ref) → is_ref r ≡ true → (pin_matches (ref_text r) s ≡ true → s ≡ r) × (s ≡ r → pin_matches (ref_text r) s ≡ true)
unfolding pin_matches
pin_matches-ref r s good =
    let read = ap (λ o. parts_match o s) (parts_back r (parts_good r good)) in
    (λ h. matches_alone r s good (sym read ∙ h), λ e. read ∙ ap (parts_match (Some r)) e ∙ matches_itself r)
