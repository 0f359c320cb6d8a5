-- Bytes that part at the last zero byte.
use Rattle.std.proofs.Common.{◌≡◌, ℕ, zero, suc, ◌+◌, ◌-◌, ◌<◌, ◌≤◌, Bool, true, false, cond, eqb, List, [], ◌∷◌, ◌++◌, length, take, drop, get_or, Option, Some, None, refl, sym, ap, ◌∙◌, arith, append-nil, length-drop}
use Rattle.std.proofs.lemmas.Bool.{eq-eqb, eqb-true}
use Rattle.std.proofs.lemmas.List.{drop_more, take_all}
use Rattle.gv_value.specs.Reading.{parted_with, parted}

abbrev Halves : Type 0
Halves = List ℕ × List ℕ

abbrev halves : List ℕ → List ℕ → Option Halves
halves front rest = Some (front, rest)

pub parted-other : (b : ℕ) (bytes : List ℕ) → (b ≡ 0 → ⊥) → parted bytes ≡ None → parted (b ∷ bytes) ≡ None
parted-other b bytes ne none = ap (parted_with b bytes) none ∙ by (eqb b 0) refl
  where
    by : (t : Bool) → eqb b 0 ≡ t → cond {A = Option Halves} t (Some ([], bytes)) None ≡ None
    by false is = refl
    by true is = absurd (ne (eqb-true b 0 is))

-- after a place there is no zero byte
pub none-more : (bytes : List ℕ) (at : ℕ) → 0 < at → at ≤ length bytes → (get_or bytes (at - 1) 0 ≡ 0 → ⊥) → parted (drop at bytes) ≡ None → parted (drop (at - 1) bytes) ≡ None
none-more bytes at pos le ne none =
    let i = at - 1 in
    let same : i + 1 ≡ at = omega arith in
    let here : drop i bytes ≡ get_or bytes i 0 ∷ drop at bytes = drop_more bytes i 0 (omega arith) ∙ ap (λ (x : ℕ). get_or bytes i 0 ∷ drop x bytes) same in
    ap parted here ∙ parted-other (get_or bytes i 0) (drop at bytes) ne none

parted-front : (bytes : List ℕ) (i : ℕ) (front rest : List ℕ) → i ≤ length bytes → parted (drop i bytes) ≡ Some (front, rest) → parted bytes ≡ Some (take i bytes ++ front, rest)
parted-front bytes zero front rest le e = e
parted-front [] (suc i) front rest le e = absurd (omega (arith, le))
parted-front (b ∷ bytes) (suc i) front rest le e = ap (parted_with b bytes) (parted-front bytes i front rest (omega (arith, le)) e)

pub parts-at : (bytes : List ℕ) (i : ℕ) → i < length bytes → get_or bytes i 0 ≡ 0 → parted (drop (i + 1) bytes) ≡ None → parted bytes ≡ Some (take i bytes, take (length bytes - (i + 1)) (drop (i + 1) bytes))
parts-at bytes i lt is none =
    let rest = drop (i + 1) bytes in
    let here : drop i bytes ≡ get_or bytes i 0 ∷ rest = drop_more bytes i 0 lt in
    let found : parted (drop i bytes) ≡ Some ([], rest) =
    ap parted here ∙ ap (parted_with (get_or bytes i 0) rest) none ∙ ap (λ (t : Bool). cond {A = Option Halves} t (Some ([], rest)) None) (eq-eqb (get_or bytes i 0) 0 is) in
    let whole : take (length bytes - (i + 1)) rest ≡ rest = take_all (length bytes - (i + 1)) rest (omega (arith, length-drop (i + 1) bytes)) in
    parted-front bytes i [] rest (omega arith) found ∙ ap (λ (xs : List ℕ). halves xs rest) (append-nil (take i bytes)) ∙ ap (λ (xs : List ℕ). halves (take i bytes) xs) (sym whole)

abbrev front_of : Option Halves → List ℕ
front_of None = []
front_of (Some p) = p.0

pub parted-short : (bytes front rest : List ℕ) → parted bytes ≡ Some (front, rest) → length front ≤ length bytes
parted-short [] front rest e = absurd cc
parted-short (b ∷ bytes) front rest e = by (λ a r. parted-short bytes a r) (parted bytes) refl e
  where
    end : (t : Bool) → cond {A = Option Halves} t (Some ([], bytes)) None ≡ halves front rest → length front ≤ length (b ∷ bytes)
    end true g = let same : [] ≡ front = ap front_of g in omega (arith, ap length same)
    end false g = absurd cc

    by : ((a r : List ℕ) → parted bytes ≡ halves a r → length a ≤ length bytes) → (o : Option Halves) → parted bytes ≡ o → parted_with b bytes o ≡ halves front rest → length front ≤ length (b ∷ bytes)
    by more (Some p) is h = let same : b ∷ p.0 ≡ front = ap front_of h in omega (arith, ap length same, more p.0 p.1 is)
    by more None is h = end (eqb b 0) h
