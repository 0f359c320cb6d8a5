-- The texts of paths.
use Rattle.std.proofs.Common.{◌≡◌, ◌≢◌, ◌⊎◌, inl, inr, ℕ, zero, suc, ◌+◌, ◌-◌, ◌<◌, ◌≤◌, ◌&&◌, ◌||◌, not, leb, codes, List, [], ◌∷◌, ◌++◌, length, take, drop, get_or, Bool, true, false, refl, sym, ◌∙◌, ap, subst, append_assoc, arith}
use Rattle.std.proofs.lemmas.List.{append-nil, take-append-drop, get_or-drop, get_or_default, length-drop}
use Rattle.std.proofs.lemmas.List.Folds.{list_all-append}
use Rattle.std.proofs.Math.Seq.{drop-cons}
use Rattle.std.proofs.lemmas.Bool.{cases_Bool, cond-true, cond-false, le-leb, lt-leb, false≢true, eqb-true}
use Rattle.std.proofs.lemmas.Bool.Decides.{eqb_tells}
use Rattle.std.proofs.lemmas.List.Splits.{slice_split_none, join_with_byte-slice_split, length-slice_split}
use Rattle.std.specs.List.{list_all, slice_split, onto_first, join_with_byte}
use Rattle.std.specs.Prelude.{All, count_by, ◌==◌}
use Rattle.std.specs.Str.{bytes_eq}
use mathlib.Core.Bool.{and-false}
use Rattle.std.proofs.lemmas.Slice.Eq.{bytes_eq-Decides}
use Rattle.fp_base.proofs.Booleans.{and_first as and_front, and_second}
use Rattle.fp_host.proofs.Separate.{path_decides}
use Rattle.fp_host.specs.Paths.{Elements, is_name_byte, is_element, turned, turned_onto, cut, elements_of, path_text, path_eq, IsAbove}

module _ {A : Type 0} where
  pub turned_onto-append : (xs done : List A) → turned_onto xs done ≡ turned xs ++ done
  turned_onto-append [] done = refl
  turned_onto-append (x ∷ xs) done =
      turned_onto-append xs (x ∷ done) ∙ sym (append_assoc (turned xs) (x ∷ []) done) ∙ ap (λ (l : List A). l ++ done) (sym (turned_onto-append xs (x ∷ [])))

  pub turned-append : (xs ys : List A) → turned (xs ++ ys) ≡ turned ys ++ turned xs
  turned-append [] ys = sym (append-nil (turned ys))
  turned-append (x ∷ xs) ys =
      turned_onto-append (xs ++ ys) (x ∷ []) ∙ ap (λ (l : List A). l ++ x ∷ []) (turned-append xs ys) ∙ append_assoc (turned ys) (turned xs) (x ∷ []) ∙ ap (λ (l : List A). turned ys ++ l) (sym (turned_onto-append xs (x ∷ [])))

  turned_onto-turned_onto : (xs done ys : List A) → turned_onto (turned_onto xs done) ys ≡ turned_onto done (xs ++ ys)
  turned_onto-turned_onto [] done ys = refl
  turned_onto-turned_onto (x ∷ xs) done ys = turned_onto-turned_onto xs (x ∷ done) ys

  pub turned-turned : (xs : List A) → turned (turned xs) ≡ xs
  turned-turned xs = turned_onto-turned_onto xs [] [] ∙ append-nil xs

  pub length-turned_onto : (xs done : List A) → length (turned_onto xs done) ≡ length xs + length done
  length-turned_onto [] done = omega arith
  length-turned_onto (x ∷ xs) done = omega (arith, length-turned_onto xs (x ∷ done))

  pub all-turned : (p : A → Bool) (xs : List A) → list_all p (turned xs) ≡ list_all p xs
  all-turned p [] = refl
  all-turned p (x ∷ xs) =
      ap (list_all p) (turned_onto-append xs (x ∷ [])) ∙ list_all-append p (turned xs) (x ∷ []) ∙ ap (λ b. b && (p x && true)) (all-turned p xs) ∙ last_in (p x) (list_all p xs)
    where
      last_in : (a b : Bool) → (b && (a && true)) ≡ (a && b)
      last_in true true = refl
      last_in true false = refl
      last_in false true = refl
      last_in false false = refl

abbrev pub is_slash : ℕ → Bool
is_slash b = b == 47

some_part : (xs : List ℕ) → (x : List ℕ) × (more : List (List ℕ)) × (slice_split is_slash xs ≡ x ∷ more)
some_part [] = ([], [], refl)
some_part (b ∷ xs) = elim (cases_Bool (is_slash b)) [
  | inl t ↦ ([], slice_split is_slash xs, cond-true (is_slash b) _ _ t)
  | inr f ↦ let m = some_part xs in (b ∷ m.0, m.1, cond-false (is_slash b) _ _ f ∙ ap (onto_first b) m.2)
]

pub slice_split-append : (xs ys : List ℕ) (y : ℕ) → is_slash y ≡ true → slice_split is_slash (xs ++ y ∷ ys) ≡ slice_split is_slash xs ++ slice_split is_slash ys
slice_split-append [] ys y slash = cond-true (is_slash y) _ _ slash
slice_split-append (b ∷ xs) ys y slash = elim (cases_Bool (is_slash b)) [
  | inl t ↦ cond-true (is_slash b) _ _ t ∙ ap (λ (l : List (List ℕ)). [] ∷ l) (slice_split-append xs ys y slash) ∙ sym (ap (λ (l : List (List ℕ)). l ++ slice_split is_slash ys) (cond-true (is_slash b) ([] ∷ slice_split is_slash xs) (onto_first b (slice_split is_slash xs)) t))
  | inr f ↦
      let m = some_part xs in
      cond-false (is_slash b) _ _ f ∙ ap (onto_first b) (slice_split-append xs ys y slash ∙ ap (λ (l : List (List ℕ)). l ++ slice_split is_slash ys) m.2)
      ∙ sym (ap (λ (l : List (List ℕ)). l ++ slice_split is_slash ys) (cond-false (is_slash b) ([] ∷ slice_split is_slash xs) (onto_first b (slice_split is_slash xs)) f ∙ ap (onto_first b) m.2))
]

-- a text cut at its last slash
pub cut-append : (xs ys : List ℕ) (y : ℕ) → is_slash y ≡ true → All (λ b. is_slash b ≡ false) ys → cut (xs ++ y ∷ ys) ≡ ys ∷ cut xs
cut-append xs ys y slash none =
    ap turned (slice_split-append xs ys y slash ∙ ap (λ (l : List (List ℕ)). slice_split is_slash xs ++ l) (slice_split_none is_slash ys none)) ∙ turned-append (slice_split is_slash xs) (ys ∷ [])

-- a text without a slash
pub cut_none : (ys : List ℕ) → All (λ b. is_slash b ≡ false) ys → cut ys ≡ ys ∷ []
cut_none ys none = ap turned (slice_split_none is_slash ys none)

pub text_cut : (text : List ℕ) → path_text (cut text) ≡ text
text_cut text = ap (join_with_byte 47) (turned-turned (slice_split is_slash text)) ∙ join_with_byte-slice_split 47 text

pub text_back : (text : List ℕ) → path_text (elements_of text) ≡ text
text_back [] = refl
text_back (b ∷ rest) = text_cut (b ∷ rest)

pub length-cut : (text : List ℕ) → length (cut text) ≡ count_by is_slash text + 1
length-cut text = omega (arith, length-turned_onto (slice_split is_slash text) [], length-slice_split is_slash text)

-- one path has one text
pub same_text : (a b : List ℕ) → elements_of a ≡ elements_of b → a ≡ b
same_text a b same = sym (text_back a) ∙ ap path_text same ∙ text_back b

pub elements_cut : (text : List ℕ) → text ≢ [] → elements_of text ≡ cut text
elements_cut [] some = absurd (some refl)
elements_cut (b ∷ rest) some = refl

pub no_elements : (text : List ℕ) → elements_of text ≡ [] → text ≡ []
no_elements text none = same_text text [] none

differs : (a b : ℕ) → a ≢ b → (a == b) ≡ false
differs a b ne = elim (eqb_tells a b) [ inl t ↦ absurd (ne t.1) | inr f ↦ f.0 ]

-- a text around its last slash
pub at_last : (text : List ℕ) (k : ℕ) → k < length text → get_or text k 0 ≡ 47 → text ≡ take k text ++ 47 ∷ drop (suc k) text
at_last text k low slash = sym (take-append-drop k text) ∙ ap (λ (l : List ℕ). take k text ++ l) (drop-cons text k 0 low ∙ ap (λ b. b ∷ drop (suc k) text) slash)

remainder : (text : List ℕ) (k : ℕ) → ((i : ℕ) → k < i → i < length text → get_or text i 0 ≢ 47) → All (λ b. is_slash b ≡ false) (drop (suc k) text)
remainder text k none j d low =
    let inside : suc k + j < length text = omega (arith, length-drop (suc k) text) in
    let same : get_or (drop (suc k) text) j d ≡ get_or text (suc k + j) 0 = get_or-drop (suc k) text j d ∙ get_or_default text (suc k + j) d 0 inside in
    subst (λ b. is_slash b ≡ false) (sym same) (differs (get_or text (suc k + j) 0) 47 (none (suc k + j) (omega arith) inside))

pub cut_last : (text : List ℕ) (k : ℕ) → k < length text → get_or text k 0 ≡ 47 → ((i : ℕ) → k < i → i < length text → get_or text i 0 ≢ 47) → cut text ≡ drop (suc k) text ∷ cut (take k text)
cut_last text k low slash none = ap cut (at_last text k low slash) ∙ cut-append (take k text) (drop (suc k) text) 47 refl (remainder text k none)

pub no_slash : (text : List ℕ) → ((i : ℕ) → i < length text → get_or text i 0 ≢ 47) → All (λ b. is_slash b ≡ false) text
no_slash text none j d low = subst (λ b. is_slash b ≡ false) (get_or_default text j 0 d low) (differs (get_or text j 0) 47 (none j low))

and_first : (a b : Bool) → a ≡ false → (a && b) ≡ false
and_first a b f = ap (λ x. x && b) f

-- an element, test by test
pub too_short : (x : List ℕ) → length x ≡ 0 → is_element x ≡ false
too_short x none = and_first (leb 1 (length x)) _ (lt-leb 1 (length x) (omega arith))

pub too_long : (x : List ℕ) → 255 < length x → is_element x ≡ false
too_long x long = ap (λ b. leb 1 (length x) && b) (and_first (leb (length x) 255) _ (lt-leb (length x) 255 long)) ∙ and-false (leb 1 (length x))

pub bad_byte : (x : List ℕ) → list_all is_name_byte x ≡ false → is_element x ≡ false
bad_byte x bad = ap (λ b. leb 1 (length x) && (leb (length x) 255 && b)) (and_first (list_all is_name_byte x) _ bad) ∙ ap (λ b. leb 1 (length x) && b) (and-false (leb (length x) 255)) ∙ and-false (leb 1 (length x))

pub by_dots : (x : List ℕ) → 0 < length x → length x ≤ 255 → list_all is_name_byte x ≡ true → is_element x ≡ not (bytes_eq x (codes ".") || bytes_eq x (codes ".."))
by_dots x some short good =
    ap (λ b. b && (leb (length x) 255 && (list_all is_name_byte x && not (bytes_eq x (codes ".") || bytes_eq x (codes ".."))))) (le-leb 1 (length x) some)
    ∙ ap (λ b. b && (list_all is_name_byte x && not (bytes_eq x (codes ".") || bytes_eq x (codes "..")))) (le-leb (length x) 255 short) ∙ ap (λ b. b && not (bytes_eq x (codes ".") || bytes_eq x (codes ".."))) good

-- Good elements: each part of the path is one.
abbrev pub IsGood : Elements → Type 0
IsGood p = list_all is_element p ≡ true

pub good_rest : (x : List ℕ) (up : Elements) → IsGood (x ∷ up) → IsGood up
good_rest x up good = and_second (is_element x) (list_all is_element up) good

pub good_first : (x : List ℕ) (up : Elements) → IsGood (x ∷ up) → is_element x ≡ true
good_first x up good = and_front (is_element x) (list_all is_element up) good

-- a good cut text isn't empty
pub elements_good : (text : List ℕ) → IsGood (cut text) → elements_of text ≡ cut text
elements_good [] good = absurd (false≢true good)
elements_good (b ∷ rest) good = refl

some_text : (text : List ℕ) (k : ℕ) → k < length text → elements_of text ≡ cut text
some_text [] k low = absurd (omega arith)
some_text (b ∷ rest) k low = refl

-- around the last slash
module _ (text : List ℕ) (k : ℕ) (low : k < length text) (slash : get_or text k 0 ≡ 47) (none : (i : ℕ) → k < i → i < length text → get_or text i 0 ≢ 47) where
  pub around : elements_of text ≡ drop (suc k) text ∷ cut (take k text)
  around = some_text text k low ∙ cut_last text k low slash none

  pub front_good : IsGood (elements_of text) → IsGood (elements_of (take k text))
  front_good good =
      let up = good_rest (drop (suc k) text) (cut (take k text)) (subst IsGood around good) in
      subst IsGood (sym (elements_good (take k text) up)) up

  pub front_is : IsGood (elements_of text) → elements_of (take k text) ≡ drop 1 (elements_of text)
  front_is good =
      let up = good_rest (drop (suc k) text) (cut (take k text)) (subst IsGood around good) in
      elements_good (take k text) up ∙ sym (ap (λ (p : Elements). drop 1 p) around)

-- where there is no slash
pub alone : (text : List ℕ) → ((i : ℕ) → i < length text → get_or text i 0 ≢ 47) → (elements_of text ≡ []) ⊎ (elements_of text ≡ text ∷ [])
alone [] none = inl refl
alone (b ∷ rest) none = inr (cut_none (b ∷ rest) (no_slash (b ∷ rest) none))

pub none_above : (text : List ℕ) → ((i : ℕ) → i < length text → get_or text i 0 ≢ 47) → [] ≡ drop 1 (elements_of text)
none_above text none = elim (alone text none) [ inl is ↦ sym (ap (λ (p : Elements). drop 1 p) is) | inr is ↦ sym (ap (λ (p : Elements). drop 1 p) is) ]

-- an element has no slash
no_slash_in : (x : List ℕ) → list_all is_name_byte x ≡ true → All (λ b. is_slash b ≡ false) x
no_slash_in [] good k d low = absurd (omega arith)
no_slash_in (b ∷ rest) good zero d low = slash_free b (and_front (is_name_byte b) (list_all is_name_byte rest) good)
  where
    slash_free : (b : ℕ) → not (b == 47 || b == 0) ≡ true → (b == 47) ≡ false
    slash_free b n = elim (cases_Bool (b == 47)) [ inr f ↦ f | inl t ↦ absurd (false≢true (sym (ap (λ c. not (c || b == 0)) t) ∙ n)) ]
no_slash_in (b ∷ rest) good (suc k) d low = no_slash_in rest (and_second (is_name_byte b) (list_all is_name_byte rest) good) k d (omega arith)

name_bytes : (x : List ℕ) → is_element x ≡ true → list_all is_name_byte x ≡ true
name_bytes x good =
    and_front (list_all is_name_byte x) _ (and_second (leb (length x) 255) _ (and_second (leb 1 (length x)) _ good))

-- one element more
pub child_root : (x : List ℕ) → is_element x ≡ true → elements_of x ≡ x ∷ []
child_root [] good = absurd (false≢true good)
child_root (b ∷ rest) good = cut_none (b ∷ rest) (no_slash_in (b ∷ rest) (name_bytes (b ∷ rest) good))

pub child_below : (text x : List ℕ) → text ≢ [] → is_element x ≡ true → elements_of (text ++ 47 ∷ x) ≡ x ∷ elements_of text
child_below [] x some good = absurd (some refl)
child_below (b ∷ rest) x some good = cut-append (b ∷ rest) x 47 refl (no_slash_in x (name_bytes x good))

pub good_child : (x : List ℕ) (up : Elements) → is_element x ≡ true → IsGood up → IsGood (x ∷ up)
good_child x up first rest = ap (λ b. b && list_all is_element up) first ∙ rest

pub from_start : (n : ℕ) → n - 0 ≡ n
from_start n = omega arith

pub add_one : (n : ℕ) → n + 1 ≡ suc n
add_one n = omega arith

-- two texts are compared as their paths are
pub same_paths : (a b : List ℕ) → bytes_eq a b ≡ path_eq (elements_of a) (elements_of b)
same_paths a b = by_tests (bytes_eq a b) (path_eq (elements_of a) (elements_of b)) (λ t. (path_decides (elements_of a) (elements_of b)).1 (ap elements_of ((bytes_eq-Decides a b).0 t))) (λ t. (bytes_eq-Decides a b).1 (same_text a b ((path_decides (elements_of a) (elements_of b)).0 t)))
  where
    by_tests : (x y : Bool) → (x ≡ true → y ≡ true) → (y ≡ true → x ≡ true) → x ≡ y
    by_tests true y there back = sym (there refl)
    by_tests false true there back = back refl
    by_tests false false there back = refl

pub elements_some : (text : List ℕ) → false ≡ (length text == 0) → elements_of text ≡ cut text
elements_some [] f = absurd (false≢true f)
elements_some (b ∷ rest) f = refl

-- the root with an element, and another path with one
pub elements_root : (text : List ℕ) → true ≡ (length text == 0) → elements_of text ≡ []
elements_root [] t = refl
elements_root (b ∷ rest) t = absurd (omega (arith, eqb-true (length (b ∷ rest)) 0 (sym t)))

pub not_empty : (text : List ℕ) → false ≡ (length text == 0) → text ≢ []
not_empty [] f e = absurd (false≢true f)
not_empty (b ∷ rest) f e = cc

pub element_of : (x : List ℕ) → false ≡ (length x == 0) → length x ≤ 255 → true ≡ list_all is_name_byte x → false ≡ bytes_eq x (codes ".") → false ≡ bytes_eq x (codes "..") → true ≡ is_element x
element_of x some short good one two =
    sym (by_dots x (some_length x some) short (sym good) ∙ ap (λ b. not (b || bytes_eq x (codes ".."))) (sym one) ∙ ap (λ b. not (false || b)) (sym two))
  where
    some_length : (x : List ℕ) → false ≡ (length x == 0) → 0 < length x
    some_length [] f = absurd (false≢true f)
    some_length (b ∷ rest) f = omega arith

-- a path that isn't the root, and the folder above it
above_found : (self p next : Elements) → p ≢ [] → next ≡ drop 1 p → next ≡ self → IsAbove self p
above_found self [] next some is found = absurd (some refl)
above_found self (x ∷ up) next some is found = inl (sym found ∙ is)

above_other : (self p next : Elements) → p ≢ [] → next ≡ drop 1 p → next ≢ self → (IsAbove self p → IsAbove self next) × (IsAbove self next → IsAbove self p)
above_other self [] next some is other = absurd (some refl)
above_other self (x ∷ up) next some is other = (
  λ above. elim above [ inl here ↦ absurd (other (is ∙ sym here)) | inr higher ↦ subst (IsAbove self) (sym is) higher ],
  λ above. inr (subst (IsAbove self) is above),
)

some_elements : (text : List ℕ) → text ≢ [] → elements_of text ≢ []
some_elements text some none = some (no_elements text none)

module _ (up next own : List ℕ) (p : Elements) (own_is : elements_of own ≡ p) (some : false ≡ (length up == 0)) (is : elements_of next ≡ drop 1 (elements_of up)) where
  pub is_found : true ≡ bytes_eq next own → IsAbove p (elements_of up)
  is_found t = above_found p (elements_of up) (elements_of next) (some_elements up (not_empty up some)) is (ap elements_of ((bytes_eq-Decides next own).0 (sym t)) ∙ own_is)

  pub is_other : false ≡ bytes_eq next own → (IsAbove p (elements_of up) → IsAbove p (elements_of next)) × (IsAbove p (elements_of next) → IsAbove p (elements_of up))
  is_other f = above_other p (elements_of up) (elements_of next) (some_elements up (not_empty up some)) is
      (λ same. false≢true (f ∙ (bytes_eq-Decides next own).1 (same_text next own (same ∙ sym own_is))))
