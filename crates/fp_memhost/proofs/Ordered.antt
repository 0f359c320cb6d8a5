-- Names that ascend by their texts.
use Rattle.std.proofs.Common.{◌≡◌, ◌≢◌, ℕ, zero, suc, ◌+◌, ◌<◌, ◌≤◌, List, [], ◌∷◌, length, get_or, take, Bool, true, false, None, refl, sym, ◌∙◌, ap, subst, arith, inl, inr}
use Rattle.std.proofs.lemmas.List.{length-take, get_or-take, get_or_default}
use Rattle.std.proofs.lemmas.Slice.Eq.{bytes_eq-Decides}
use Rattle.std.proofs.lemmas.Map.Text.{is_eq-slice_cmp}
use Rattle.std.specs.List.{list_all}
use Rattle.std.specs.Ordering.{nat_cmp, is_eq}
use Rattle.std.specs.declared.cmp.Ordering.{Ordering}
use Rattle.std.specs.declared.cmp.Ordering.TheVariants.{Less, Equal, Greater}
use Rattle.std.specs.Cmp.Lexicographic.{slice_cmp}
use Rattle.std.proofs.lemmas.Cmp.{nat_list_cmp_total, tied_itself}
use Rattle.std.proofs.lemmas.Bool.{and_parts, false_from_ne_true, cases_lt}
use Rattle.fp_base.proofs.Texts.{less_from, flip, flip_less}
use Rattle.fp_host.specs.Paths.{Elements, path_text, elements_of}
use Rattle.fp_host.proofs.PathTexts.{text_back}
use Rattle.fp_host.proofs.Separate.{path_decides}
use Rattle.fp_memhost.specs.Names.{comes_before, ascends, IsAscending, is_at, name_at, IsAt, IsPlace}
use Rattle.fp_memhost.specs.declared.names.Name.{Name}
use Rattle.fp_memhost.proofs.Finding.{find_none}

abbrev pub compare : List ℕ → List ℕ → Ordering
compare = slice_cmp nat_cmp

abbrev pub text_at : List Name → ℕ → Name → List ℕ
text_at names k d = path_text (get_or names k d).path

all_at : {A : Type 0} (p : A → Bool) (xs : List A) → list_all p xs ≡ true → (k : ℕ) (d : A) → k < length xs → p (get_or xs k d) ≡ true
all_at p [] all k d low = absurd (omega arith)
all_at p (x ∷ xs) all zero d low = (and_parts (p x) (list_all p xs) all).0
all_at p (x ∷ xs) all (suc k) d low = all_at p xs (and_parts (p x) (list_all p xs) all).1 k d (omega arith)

-- an earlier name comes before a later one
pub in_order : (names : List Name) → ascends names ≡ true → (i j : ℕ) (d e : Name) → i < j → j < length names → compare (text_at names i d) (text_at names j e) ≡ Less
in_order [] asc i j d e lt low = absurd (omega arith)
in_order (x ∷ xs) asc zero zero d e lt low = absurd (omega arith)
in_order (x ∷ xs) asc zero (suc j) d e lt low = less_from _ (all_at (comes_before x) xs (and_parts _ _ asc).0 j e (omega arith))
in_order (x ∷ xs) asc (suc i) zero d e lt low = absurd (omega arith)
in_order (x ∷ xs) asc (suc i) (suc j) d e lt low = in_order xs (and_parts (list_all (comes_before x) xs) (ascends xs) asc).1 i j d e (omega arith) (omega arith)

-- what is at or before a name that is too low is too low
pub lower : (names : List Name) (text : List ℕ) → IsAscending names → (m : ℕ) → m < length names → ((d : Name) → compare (text_at names m d) text ≡ Less) → (k : ℕ) (d : Name) → k < m + 1 → compare (text_at names k d) text ≡ Less
lower names text asc m low is k d lt = elim (cases_lt k m) [
  | inl before ↦ nat_list_cmp_total.trans (text_at names k d) (text_at names m d) text (in_order names asc.each k m d d before low) (is d)
  | inr here ↦ subst (λ j. compare (text_at names j d) text ≡ Less) (omega arith) (is d)
]

pub higher : (names : List Name) (text : List ℕ) → IsAscending names → (m : ℕ) → ((d : Name) → compare (text_at names m d) text ≡ Greater) → (k : ℕ) (d : Name) → m ≤ k → k < length names → compare (text_at names k d) text ≡ Greater
higher names text asc m is k d le low = elim (cases_lt m k) [
  | inl remainder ↦ flip_less text (text_at names k d) (nat_list_cmp_total.trans text (text_at names m d) (text_at names k d) (flip (text_at names m d) text (is d)) (in_order names asc.each m k d d remainder low))
  | inr here ↦ subst (λ j. compare (text_at names j d) text ≡ Greater) (omega arith) (is d)
]

-- a path with another text is another path
pub other_text : (p : Elements) (name : Name) (text : List ℕ) → p ≡ elements_of text → compare (path_text name.path) text ≢ Equal → is_at p name ≡ false
other_text p name text of ne = false_from_ne_true (is_at p name) (λ t.
    let same = (path_decides p name.path).0 t in
    let is : path_text name.path ≡ text = ap path_text (sym same) ∙ ap path_text of ∙ text_back text in
    ne (ap (λ (x : List ℕ). compare x text) is ∙ tied_itself nat_list_cmp_total text))

pub less_no : (o : Ordering) → o ≡ Less → o ≢ Equal
less_no o is e = cc

greater_no : (o : Ordering) → o ≡ Greater → o ≢ Equal
greater_no o is e = cc

-- no name before this one has the path
pub none_before : (names : List Name) (p : Elements) (text : List ℕ) (i : ℕ) → p ≡ elements_of text → i ≤ length names → ((k : ℕ) (d : Name) → k < i → compare (text_at names k d) text ≡ Less) → name_at (take i names) p ≡ None
none_before names p text i of low before = find_none (is_at p) (take i names) (λ k d lt.
    let small : k < i = omega (arith, length-take i names) in
    subst (λ (x : Name). is_at p x ≡ false) (sym (get_or-take i names k d small)) (other_text p (get_or names k d) text of (less_no _ (before k d small))))

-- where a name would stand, none is
pub none_at : (names : List Name) (p : Elements) (text : List ℕ) (i : ℕ) → p ≡ elements_of text → IsPlace names text i → name_at names p ≡ None
none_at names p text i of place = find_none (is_at p) names (λ k d low. other_text p (get_or names k d) text of (elim (cases_lt k i) [ inl lt ↦ less_no _ (place.before k d lt) | inr le ↦ greater_no _ (place.remainder k d le low) ]))

-- what was read of one name
pub read_at : (names : List Name) (m : ℕ) (name : Name) (t text : List ℕ) (o : Ordering) → m < length names → t ≡ text_at names m name → o ≡ compare t text → (d : Name) → compare (text_at names m d) text ≡ o
read_at names m name t text o low of tells d =
    ap (λ (x : Name). compare (path_text x.path) text) (get_or_default names m d name low) ∙ ap (λ (x : List ℕ). compare x text) (sym of) ∙ sym tells

equal_texts : (a b : List ℕ) → compare a b ≡ Equal → a ≡ b
equal_texts a b is = (bytes_eq-Decides a b).0 (sym (is_eq-slice_cmp a b) ∙ ap is_eq is)

-- the name that was found
pub found_at : (names : List Name) (m : ℕ) (name : Name) (t text : List ℕ) → IsAscending names → m < length names → t ≡ text_at names m name → elements_of t ≡ (get_or names m name).path → Equal ≡ compare t text → IsAt names (elements_of text) m
found_at names m name t text asc low of back tells =
    let same : t ≡ text = equal_texts t text (sym tells) in
    record {
      low = low;
      before = none_before names (elements_of text) text m refl (omega arith) (λ k d lt. subst (λ (x : List ℕ). compare (text_at names k d) x ≡ Less) (sym of ∙ same) (in_order names asc.each k m d name lt low));
      here = λ d. ap (λ (x : Name). x.path) (get_or_default names m d name low) ∙ sym back ∙ ap elements_of same;
    }
