-- A text with endings at its end.
use Rattle.std.proofs.Common.{◌≡◌, ℕ, Bool, true, false, cond, List, [], ◌∷◌, ◌++◌, length, Some, None, is_some, refl, sym, ap, ◌∙◌, arith}
use Rattle.std.specs.List.{slice_split, onto_first, All}
use Rattle.std.proofs.lemmas.List.Splits.{slice_split-cons_yes, slice_split_none}
use Rattle.std.proofs.lemmas.Bool.{ne_eqb}
use Rattle.fl_meta.specs.Places.{is_colon}
use Rattle.fl_meta.specs.Entries.{is_empty, last_of, last_word, access_remainder}
use Rattle.fl_meta.specs.Cuts.{HasNoEnding}

-- there is a first part
pub record Parts (parts : List (List ℕ)) : Type 0 where
  pub first : List ℕ
  pub others : List (List ℕ)
  pub is : parts ≡ first ∷ others

Parts-onto : (x : ℕ) (parts : List (List ℕ)) → Parts (onto_first x parts)
Parts-onto x [] = record { first = x ∷ []; others = []; is = refl }
Parts-onto x (part ∷ more) = record { first = x ∷ part; others = more; is = refl }

Parts-cond : (b : Bool) (ps qs : List (List ℕ)) → Parts ps → Parts qs → Parts (cond b ps qs)
Parts-cond true ps qs h k = h
Parts-cond false ps qs h k = k

pub Parts-split : (p : ℕ → Bool) (bs : List ℕ) → Parts (slice_split p bs)
Parts-split p [] = record { first = []; others = []; is = refl }
Parts-split p (b ∷ bs) = Parts-cond (p b) _ _ (record { first = []; others = slice_split p bs; is = refl }) (Parts-onto b (slice_split p bs))

no_parts : (first : List ℕ) (others : List (List ℕ)) → [] ≡ first ∷ others → ⊥
no_parts first others e = cc

pub onto_first-append : (x : ℕ) (parts more : List (List ℕ)) → Parts parts → onto_first x (parts ++ more) ≡ onto_first x parts ++ more
onto_first-append x [] more h = absurd (no_parts h.first h.others h.is)
onto_first-append x (part ∷ parts) more h = refl

split-by : (b : Bool) (x : ℕ) (ps more : List (List ℕ)) → Parts ps → cond b ([] ∷ (ps ++ more)) (onto_first x (ps ++ more)) ≡ cond b ([] ∷ ps) (onto_first x ps) ++ more
split-by true x ps more h = refl
split-by false x ps more h = onto_first-append x ps more h

-- the last part stands after the last mark
pub split_last : (p : ℕ → Bool) (xs : List ℕ) (y : ℕ) (ys : List ℕ) → p y ≡ true → All (λ x. p x ≡ false) ys → slice_split p (xs ++ y ∷ ys) ≡ slice_split p xs ++ ys ∷ []
split_last p [] y ys holds none = slice_split-cons_yes p y ys holds ∙ ap (λ ps. [] ∷ ps) (slice_split_none p ys none)
split_last p (x ∷ xs) y ys holds none =
    ap (λ ps. cond (p x) ([] ∷ ps) (onto_first x ps)) (split_last p xs y ys holds none) ∙ split-by (p x) x (slice_split p xs) (ys ∷ []) (Parts-split p xs)

-- ---- the last part

last_of-append : (last : List ℕ) (words : List (List ℕ)) (w : List ℕ) → last_of last (words ++ w ∷ []) ≡ w
last_of-append last [] w = refl
last_of-append last (v ∷ words) w = last_of-append v words w

last_word-append : (first : List ℕ) (others : List (List ℕ)) (w : List ℕ) → last_word (first ∷ others ++ w ∷ []) ≡ Some w
last_word-append first [] w = refl
last_word-append first (v ∷ others) w = ap Some (last_of-append v others w)

pub last_word-parts : (parts : List (List ℕ)) (w : List ℕ) → Parts parts → last_word (parts ++ w ∷ []) ≡ Some w
last_word-parts parts w h = rw h.is (last_word-append h.first h.others w)

-- what is read after the last colon
pub last_word-cut : (front word text : List ℕ) → text ≡ front ++ 58 ∷ word → All (λ b. is_colon b ≡ false) word → last_word (slice_split is_colon text) ≡ Some word
last_word-cut front word text e none =
    ap (λ t. last_word (slice_split is_colon t)) e ∙ ap last_word (split_last is_colon front 58 word refl none) ∙ last_word-parts (slice_split is_colon front) word (Parts-split is_colon front)

pub last_word-none : (text : List ℕ) → All (λ b. is_colon b ≡ false) text → last_word (slice_split is_colon text) ≡ None
last_word-none text none = ap last_word (slice_split_none is_colon text none)

-- ---- a text without an ending

pub is_empty-cons : (x : ℕ) (xs : List ℕ) → is_empty (x ∷ xs) ≡ false
is_empty-cons x xs = ne_eqb (length (x ∷ xs)) 0 (λ e. omega arith)

-- what is after the first byte has no ending either
tail_word : (b : Bool) (x : ℕ) (first : List ℕ) (others : List (List ℕ)) → is_some (access_remainder (last_word (cond b ([] ∷ first ∷ others) (onto_first x (first ∷ others))))) ≡ false → is_some (access_remainder (last_word (first ∷ others))) ≡ false
tail_word true x first [] h = refl
tail_word true x first (v ∷ others) h = h
tail_word false x first others h = h

pub tail_none : (x : ℕ) (xs : List ℕ) → HasNoEnding (x ∷ xs) → HasNoEnding xs
tail_none x xs h =
    let p = Parts-split is_colon xs in
    let step : slice_split is_colon (x ∷ xs) ≡ cond (is_colon x) ([] ∷ p.first ∷ p.others) (onto_first x (p.first ∷ p.others)) = ap (λ ps. cond (is_colon x) ([] ∷ ps) (onto_first x ps)) p.is in
    ap (λ ps. is_some (access_remainder (last_word ps))) p.is ∙ tail_word (is_colon x) x p.first p.others (sym (ap (λ ps. is_some (access_remainder (last_word ps))) step) ∙ h)
