-- A text that is cut at a byte.
use Rattle.std.proofs.Common.{◌≡◌, ◌==◌, ◌<◌, ◌+◌, ℕ, zero, suc, Bool, true, false, cond, eqb, List, [], ◌∷◌, length, length-append, get_or, Option, Some, None, Bor, refl, ap, arith, MatchOption, MatchBool}
use Rattle.std.specs.List.{slice_split, onto_first, All}
use Rattle.std.proofs.lemmas.Bool.{both_ways, ne_eqb, eq-eqb, eqb-false}
use Rattle.std.proofs.lemmas.List.Elements.{All-from_get_or}
use Rattle.std.proofs.lemmas.List.Splits.{slice_split_none, slice_split_at}
use Rattle.std.proofs.lemmas.Str.Pattern.{IsSplitOnceResult, split_parts, contains_char}
use Rattle.std.specs.Str.Pattern.{FindsChar, HasMatch}

-- a list without the mark
pub Lacks-from_reads : (mark : ℕ) (bs : List ℕ) → ((i : ℕ) → i < length bs → get_or bs i 0 ≡ mark → ⊥) → All (λ b. eqb b mark ≡ false) bs
Lacks-from_reads mark bs h = All-from_get_or (λ b. eqb b mark ≡ false) bs 0 (λ i lt. ne_eqb (get_or bs i 0) mark (h i lt))

-- what `split_once` gives: no mark, and the whole is the one part; or the first part and the rest
abbrev pub CutsOnce : ℕ → List ℕ → Option (Bor (List ℕ) × Bor (List ℕ)) → Type 0
CutsOnce mark bs r = MatchOption r (slice_split (λ b. b == mark) bs ≡ bs ∷ [])
    (λ x. (slice_split (λ b. b == mark) bs ≡ x.0.now ∷ slice_split (λ b. b == mark) x.1.now) × (length x.0.now + length x.1.now + 1 ≡ length bs))

pub cuts_once : (mark : ℕ) (bs : List ℕ) (r : Option (Bor (List ℕ) × Bor (List ℕ))) → IsSplitOnceResult mark bs r → mark < 128 → CutsOnce mark bs r
cuts_once mark bs None h small =
    slice_split_none (λ b. eqb b mark) bs (Lacks-from_reads mark bs (split_parts mark bs None h small))
cuts_once mark bs (Some x) h small =
    let parts = split_parts mark bs (Some x) h small in
    let whole = parts.0 in (
      rw whole (slice_split_at (λ b. eqb b mark) x.0.now mark x.1.now (Lacks-from_reads mark x.0.now parts.1) (eq-eqb mark mark refl)),
      rw whole (omega (arith, length-append x.0.now (mark ∷ x.1.now))),
    )

-- there is a first part
abbrev pub HasFirst : List (List ℕ) → Type 0
HasFirst parts = (part : List ℕ) × (more : List (List ℕ)) × (parts ≡ part ∷ more)

HasFirst-onto : (x : ℕ) (parts : List (List ℕ)) → HasFirst (onto_first x parts)
HasFirst-onto x [] = (x ∷ [], [], refl)
HasFirst-onto x (part ∷ more) = (x ∷ part, more, refl)

HasFirst-cond : (b : Bool) (ps qs : List (List ℕ)) → HasFirst ps → HasFirst qs → HasFirst (cond b ps qs)
HasFirst-cond true ps qs h k = h
HasFirst-cond false ps qs h k = k

pub HasFirst-split : (p : ℕ → Bool) (bs : List ℕ) → HasFirst (slice_split p bs)
HasFirst-split p [] = ([], [], refl)
HasFirst-split p (b ∷ bs) = HasFirst-cond (p b) _ _ ([], slice_split p bs, refl) (HasFirst-onto b (slice_split p bs))

-- there are two parts or more
abbrev pub HasTwo : List (List ℕ) → Type 0
HasTwo parts = (part : List ℕ) × (next : List ℕ) × (more : List (List ℕ)) × (parts ≡ part ∷ next ∷ more)

HasTwo-front : (part : List ℕ) (parts : List (List ℕ)) → HasFirst parts → HasTwo (part ∷ parts)
HasTwo-front part parts first = (part, first.0, first.1, ap (λ ps. part ∷ ps) first.2)

HasTwo-onto : (x : ℕ) (parts : List (List ℕ)) → HasTwo parts → HasTwo (onto_first x parts)
HasTwo-onto x parts two = (x ∷ two.0, two.1, two.2, ap (onto_first x) two.3)

HasTwo-cond : (b : Bool) (ps qs : List (List ℕ)) → (b ≡ true → HasTwo ps) → (b ≡ false → HasTwo qs) → HasTwo (cond b ps qs)
HasTwo-cond true ps qs h k = h refl
HasTwo-cond false ps qs h k = k refl

-- a text with the mark in it
HasTwo-split : (mark : ℕ) (bs : List ℕ) (k : ℕ) → k < length bs → get_or bs k 0 ≡ mark → HasTwo (slice_split (λ b. eqb b mark) bs)
HasTwo-split mark [] k lt e = absurd (omega arith)
HasTwo-split mark (b ∷ bs) zero lt e =
    HasTwo-cond (eqb b mark) _ _ (λ _. HasTwo-front [] _ (HasFirst-split _ bs)) (λ no. absurd (eqb-false b mark no e))
HasTwo-split mark (b ∷ bs) (suc k) lt e =
    HasTwo-cond (eqb b mark) _ _ (λ _. HasTwo-front [] _ (HasFirst-split _ bs)) (λ _. HasTwo-onto b _ (HasTwo-split mark bs k (omega arith) e))

-- what `contains` answers
abbrev pub IsContainsResult : ℕ → List ℕ → Bool → Type 0
IsContainsResult mark bs r = MatchBool r (HasMatch (FindsChar mark) bs) (FindsChar mark bs None)

pub contains_true : (mark : ℕ) (bs : List ℕ) (r : Bool) → IsContainsResult mark bs r → mark < 128 → r ≡ true → HasTwo (slice_split (λ b. b == mark) bs)
contains_true mark bs r h small found =
    let at = (contains_char mark bs r h small).0 found in HasTwo-split mark bs at.0 at.1 at.2

pub contains_false : (mark : ℕ) (bs : List ℕ) (r : Bool) → IsContainsResult mark bs r → mark < 128 → r ≡ false → slice_split (λ b. b == mark) bs ≡ bs ∷ []
contains_false mark bs r h small lacking =
    slice_split_none (λ b. eqb b mark) bs (Lacks-from_reads mark bs (λ i lt e. both_ways r lacking ((contains_char mark bs r h small).1 i lt e)))
