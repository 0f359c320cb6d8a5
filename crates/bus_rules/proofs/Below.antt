-- Whether a text is another one or begins with it and a separator, byte by byte.
use Rattle.std.proofs.Common.{◌≡◌, ◌==◌, ℕ, ◌<◌, ◌≤◌, Bool, true, false, List, [], ◌∷◌, length, get_or, refl, sym, ap, subst, ◌∙◌, arith, eqb}
use Rattle.std.specs.Prelude.{◌&&◌, ◌||◌, nat_eq}
use Rattle.std.specs.List.{starts_with}
use mathlib.Core.Bool.{and-true}
use Rattle.std.proofs.lemmas.Bool.{and_parts, false≢true}
use Rattle.bus_rules.specs.Rules.{is_within}

abbrev pub under : ℕ → (path above : List ℕ) → Bool
under s [] [] = true
under s (x ∷ xs) [] = x == s
under s [] (a ∷ bs) = false
under s (x ∷ xs) (a ∷ bs) = (x == a) && under s xs bs

eqb_comm : (a b : ℕ) → eqb a b ≡ eqb b a
eqb_comm a b = grind arith

and_step : (x a : ℕ) (p q r : Bool) → (p || q) ≡ r → ((x == a) && p || ((a == x) && q)) ≡ ((x == a) && r)
and_step x a p q r h = subst (λ (t : Bool). ((x == a) && p || (t && q)) ≡ ((x == a) && r)) (eqb_comm x a) (by (x == a) p q r h)
  where
    by : (b p q r : Bool) → (p || q) ≡ r → (b && p || (b && q)) ≡ (b && r)
    by true p q r h = h
    by false p q r h = refl

pub within-under : (s : ℕ) (path above : List ℕ) → is_within s path above ≡ under s path above
within-under s [] [] = refl
within-under s (x ∷ xs) [] = and-true (s == x) ∙ eqb_comm s x
within-under s [] (a ∷ bs) = refl
within-under s (x ∷ xs) (a ∷ bs) = and_step x a _ _ _ (within-under s xs bs)

and_no : (b p q : Bool) → (p ≡ false → q ≡ false) → (b && p) ≡ false → (b && q) ≡ false
and_no true p q f e = f e
and_no false p q f e = refl

-- what follows from how a path begins
pub not_begun : (s : ℕ) (path above : List ℕ) → starts_with nat_eq path above ≡ false → under s path above ≡ false
not_begun s [] [] h = absurd (false≢true (sym h))
not_begun s (x ∷ xs) [] h = absurd (false≢true (sym h))
not_begun s [] (a ∷ bs) h = refl
not_begun s (x ∷ xs) (a ∷ bs) h = and_no (x == a) (starts_with nat_eq xs bs) (under s xs bs) (not_begun s xs bs) (subst (λ (t : Bool). (t && starts_with nat_eq xs bs) ≡ false) (eqb_comm a x) h)

begun_rest : (x a : ℕ) (xs bs : List ℕ) → starts_with nat_eq (x ∷ xs) (a ∷ bs) ≡ true → ((x == a) ≡ true) × (starts_with nat_eq xs bs ≡ true)
begun_rest x a xs bs h =
    let both = and_parts (a == x) (starts_with nat_eq xs bs) h in
    (eqb_comm x a ∙ both.0, both.1)

pub begun_whole : (s : ℕ) (path above : List ℕ) → starts_with nat_eq path above ≡ true → length path ≤ length above → under s path above ≡ true
begun_whole s [] [] h l = refl
begun_whole s (x ∷ xs) [] h l = absurd (omega arith)
begun_whole s [] (a ∷ bs) h l = absurd (false≢true h)
begun_whole s (x ∷ xs) (a ∷ bs) h l =
    let both = begun_rest x a xs bs h in
    ap (λ (b : Bool). b && under s xs bs) both.0 ∙ begun_whole s xs bs both.1 (omega arith)

pub begun_more : (s : ℕ) (path above : List ℕ) (next : ℕ) → starts_with nat_eq path above ≡ true → length above < length path → get_or path (length above) 0 ≡ next → under s path above ≡ (next == s)
begun_more s [] above next h l e = absurd (omega arith)
begun_more s (x ∷ xs) [] next h l e = ap (λ (n : ℕ). n == s) e
begun_more s (x ∷ xs) (a ∷ bs) next h l e =
    let both = begun_rest x a xs bs h in
    ap (λ (b : Bool). b && under s xs bs) both.0 ∙ begun_more s xs bs next both.1 (omega arith) e
