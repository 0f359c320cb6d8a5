-- The texts of names in folders, in order.
use Rattle.std.proofs.Common.{◌≡◌, ◌≢◌, inl, inr, ◌+◌, ℕ, ◌&&◌, eqb, true, false, List, [], ◌∷◌, ◌++◌, map, length, take, Ordering, refl, sym, ◌∙◌, ap, subst, Contains, arith, append_assoc}
use Rattle.std.specs.declared.cmp.Ordering.TheVariants.{Less, Equal, Greater}
use Rattle.std.specs.Cmp.Lexicographic.{slice_cmp}
use Rattle.std.specs.List.{list_all, join_with_byte}
use Rattle.std.specs.Ordering.{is_lt, nat_cmp, ordering_then}
use Rattle.std.proofs.lemmas.Bool.{and_parts, and_from, eqb-true, both_ways}
use Rattle.std.proofs.lemmas.Cmp.{nat_cmp_total, tied_itself}
use Rattle.std.proofs.lemmas.List.Elements.{Contains-push}
use Rattle.fp_host.specs.Paths.{Elements, path_text, turned, elements_of, is_element}
use Rattle.fp_host.specs.Reads.{comes_first, is_ascending}
use Rattle.fp_host.proofs.PathTexts.{turned_onto-append, length-turned_onto, child_below}
use Rattle.fp_base.proofs.Lists.{in_none, in_first, in_rest, in_cases, from_map}
use Rattle.fp_small.specs.Order.{comes_before}
use Rattle.fp_small.proofs.Ordered.{first_below, less_one}

-- ---- the text of a path with one element more

join_push : (parts : List (List ℕ)) (x : List ℕ) → parts ≢ [] → join_with_byte 47 (parts ++ x ∷ []) ≡ join_with_byte 47 parts ++ 47 ∷ x
join_push [] x some = absurd (some refl)
join_push (y ∷ []) x some = refl
join_push (y ∷ z ∷ parts) x some = ap (λ (l : List ℕ). y ++ 47 ∷ l) (join_push (z ∷ parts) x (λ e. cc e)) ∙ sym (append_assoc y (47 ∷ join_with_byte 47 (z ∷ parts)) (47 ∷ x))

turned_some : (p : Elements) → p ≢ [] → turned p ≢ []
turned_some p some none = some (is_none p (omega (arith, length-turned_onto p [], ap length none)))
  where
    is_none : (p : Elements) → length p ≡ 0 → p ≡ []
    is_none [] e = refl
    is_none (x ∷ up) e = absurd (omega (arith, e))

pub child_text : (x : List ℕ) (p : Elements) → p ≢ [] → path_text (x ∷ p) ≡ path_text p ++ 47 ∷ x
child_text x p some = ap (join_with_byte 47) (turned_onto-append p (x ∷ [])) ∙ join_push (turned p) x (turned_some p some)

-- it is read as the path
pub child_back : (x : List ℕ) (p : Elements) → p ≢ [] → is_element x ≡ true → elements_of (path_text p) ≡ p → elements_of (path_text (x ∷ p)) ≡ x ∷ p
child_back x p some good back =
    ap elements_of (child_text x p some) ∙ child_below (path_text p) x (λ none. some (sym back ∙ ap elements_of none)) good ∙ ap (λ (up : Elements). x ∷ up) back

-- ---- two texts

same_start : (p x y : List ℕ) → comes_before (p ++ x) (p ++ y) ≡ comes_before x y
same_start [] x y = refl
same_start (b ∷ p) x y = ap (λ o. is_lt (ordering_then o (slice_cmp nat_cmp (p ++ x) (p ++ y)))) (tied_itself nat_cmp_total b) ∙ same_start p x y

-- what comes after texts of one length changes nothing
pub longer_before : (x y s t : List ℕ) → length x ≡ length y → comes_before x y ≡ true → comes_before (x ++ s) (y ++ t) ≡ true
longer_before [] [] s t long before = absurd (cc before)
longer_before [] (b ∷ y) s t long before = absurd (omega (arith, long))
longer_before (a ∷ x) [] s t long before = absurd (omega (arith, long))
longer_before (a ∷ x) (b ∷ y) s t long before = step (nat_cmp a b) (slice_cmp nat_cmp x y) (slice_cmp nat_cmp (x ++ s) (y ++ t)) (longer_before x y s t (omega (arith, long))) before
  where
    step : (o r r' : Ordering) → (is_lt r ≡ true → is_lt r' ≡ true) → is_lt (ordering_then o r) ≡ true → is_lt (ordering_then o r') ≡ true
    step Less r r' more h = refl
    step Equal r r' more h = more h
    step Greater r r' more h = h

-- two names in one folder
pub names_before : (x y : List ℕ) (p : Elements) → p ≢ [] → comes_before (path_text (x ∷ p)) (path_text (y ∷ p)) ≡ comes_before x y
names_before x y p some =
    (λ i. comes_before (child_text x p some i) (child_text y p some i)) ∙ same_start (path_text p) (47 ∷ x) (47 ∷ y) ∙ same_start (47 ∷ []) x y

-- two names in folders whose names have one length
pub folders_before : (x y a b : List ℕ) (p : Elements) → p ≢ [] → length a ≡ length b → comes_before a b ≡ true → comes_before (path_text (x ∷ (a ∷ p))) (path_text (y ∷ (b ∷ p))) ≡ true
folders_before x y a b p some long before =
    (λ i. comes_before (text x a i) (text y b i)) ∙ same_start (path_text p) (47 ∷ (a ++ 47 ∷ x)) (47 ∷ (b ++ 47 ∷ y)) ∙ same_start (47 ∷ []) (a ++ 47 ∷ x) (b ++ 47 ∷ y) ∙ longer_before a b (47 ∷ x) (47 ∷ y) long before
  where
    text : (x a : List ℕ) → path_text (x ∷ (a ∷ p)) ≡ path_text p ++ 47 ∷ (a ++ 47 ∷ x)
    text x a = child_text x (a ∷ p) (λ e. cc e) ∙ ap (λ (l : List ℕ). l ++ 47 ∷ x) (child_text a p some) ∙ append_assoc (path_text p) (47 ∷ a) (47 ∷ x)

-- ---- lists

-- the texts of names in a folder ascend as they do
pub texts_ascend : (p : Elements) → p ≢ [] → (names : List (List ℕ)) → is_ascending (map path_text (map (λ x. x ∷ p) names)) ≡ is_ascending names
texts_ascend p some [] = refl
texts_ascend p some (x ∷ []) = refl
texts_ascend p some (x ∷ y ∷ names) = (λ i. names_before x y p some i && texts_ascend p some (y ∷ names) i)

pub append_ascends : (xs ys : List (List ℕ)) → is_ascending xs ≡ true → is_ascending ys ≡ true → ((x y : List ℕ) → Contains xs x → Contains ys y → comes_before x y ≡ true) → is_ascending (xs ++ ys) ≡ true
append_ascends [] ys one two all = two
append_ascends (x ∷ []) ys one two all = and_from (comes_first x ys) (is_ascending ys) (first ys (λ y has. all x y (in_first x []) has)) two
  where
    first : (ys : List (List ℕ)) → ((y : List ℕ) → Contains ys y → comes_before x y ≡ true) → comes_first x ys ≡ true
    first [] all = refl
    first (y ∷ ys) all = all y (in_first y ys)
append_ascends (x ∷ w ∷ xs) ys one two all =
    let a = and_parts (comes_before x w) (is_ascending (w ∷ xs)) one in
    and_from (comes_before x w) (is_ascending (w ∷ (xs ++ ys))) a.0 (append_ascends (w ∷ xs) ys a.1 two (λ y z has. all y z (in_rest x (w ∷ xs) y has)))

-- in an ascending list each comes before the last
pub before_last : (xs : List (List ℕ)) (x y : List ℕ) → is_ascending (xs ++ x ∷ []) ≡ true → Contains xs y → comes_before y x ≡ true
before_last [] x y h has = absurd (in_none y has)
before_last (z ∷ xs) x y h has =
    let a = and_parts (comes_first z (xs ++ x ∷ [])) (is_ascending (xs ++ x ∷ [])) h in
    elim (in_cases z xs y has) [
      | inl same ↦ subst (λ (w : List ℕ). comes_before w x ≡ true) (sym same) (first_below z (xs ++ x ∷ []) x a.0 a.1 (Contains-push xs x))
      | inr later ↦ before_last xs x y a.1 later
    ]
