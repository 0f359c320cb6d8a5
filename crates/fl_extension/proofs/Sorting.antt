-- Of the orders of a list whose names are distinct, one ascends.
use Rattle.std.proofs.Common.{◌≡◌, ⊎_elim, ℕ, suc, ◌≤◌, Bool, true, false, cond, not, List, [], ◌∷◌, map, sum_by, Contains, IsPermutation, IsSortedBy, refl, sym, ap, ap₂, subst, ◌∙◌, inl, inr, arith, add-one}
use Rattle.std.specs.List.{list_any}
use Rattle.std.specs.Str.{bytes_eq}
use Rattle.std.proofs.lemmas.Bool.{cases_Bool, and_parts, and_from, or_parts, not-true, both_ways, false_from_ne_true}
use Rattle.std.proofs.lemmas.List.Sorted.{IsPermutation-sym, IsPermutation-map, Contains-permutation, sum_by-IsPermutation}
use Rattle.std.proofs.lemmas.List.Sums.{sum_by-cons}
use Rattle.fp_base.proofs.Lists.{in_first, in_rest, in_cases}
use Rattle.fp_base.proofs.Texts.{bytes_eq-true, bytes_eq-same}
use Rattle.fp_host.specs.Reads.{comes_first, is_ascending}
use Rattle.fp_keyfile.specs.KeyFile.{are_distinct}
use Rattle.fp_small.specs.Order.{comes_before, sorted_by}
use Rattle.fp_small.proofs.Ordered.{before_back, before_on, not_before_itself, is_ascending-sorted_by}
use Rattle.fp_small.proofs.Sorted.{permuted_by}

-- ---- how often a name stands in a list

abbrev hit : List ℕ → List ℕ → ℕ
hit n m = cond (bytes_eq n m) 1 0

hits_none : (n : List ℕ) (ms : List (List ℕ)) → list_any (bytes_eq n) ms ≡ false → sum_by (hit n) ms ≡ 0
hits_none n [] h = refl
hits_none n (m ∷ ms) h =
    let a = or_parts (bytes_eq n m) (list_any (bytes_eq n) ms) h in
    let miss : hit n m ≡ 0 = ap (λ (b : Bool). cond b 1 0) a.0 in
    omega (arith, sum_by-cons (hit n) m ms, miss, hits_none n ms a.1)

hits_distinct : (n : List ℕ) (ms : List (List ℕ)) → are_distinct ms ≡ true → sum_by (hit n) ms ≤ 1
hits_distinct n [] d = omega arith
hits_distinct n (m ∷ ms) d =
    let a = and_parts (not (list_any (bytes_eq m) ms)) (are_distinct ms) d in
    let more = sum_by-cons (hit n) m ms in
    elim (cases_Bool (bytes_eq n m)) [
      | inl e ↦ let one : hit n m ≡ 1 = ap (λ (b : Bool). cond b 1 0) e in let none = hits_none n ms (subst (λ (k : List ℕ). list_any (bytes_eq k) ms ≡ false) (sym (bytes_eq-true n m e)) (not-true _ a.0)) in omega (arith, more, one, none)
      | inr e ↦ let miss : hit n m ≡ 0 = ap (λ (b : Bool). cond b 1 0) e in omega (arith, more, miss, hits_distinct n ms a.1)
    ]

-- in a sorted list in which each name stands once, the names ascend
ascends_once : {A : Type 0} (name : A → List ℕ) (ys : List A) → IsSortedBy (λ x y. comes_before (name x) (name y)) ys → ((n : List ℕ) → sum_by (hit n) (map name ys) ≤ 1) → is_ascending (map name ys) ≡ true
ascends_once name [] sorted once = refl
ascends_once name (x ∷ []) sorted once = refl
ascends_once {A} name (x ∷ y ∷ ys) sorted once =
    let tail : IsSortedBy (λ (v w : A). comes_before (name v) (name w)) (y ∷ ys) = λ k d p q. rw add-one (rw add-one at (sorted (suc k) d (omega arith) (omega arith))) in
    let fewer : (n : List ℕ) → sum_by (hit n) (map name (y ∷ ys)) ≤ 1 = λ n. let more = sum_by-cons (hit n) (name x) (map name (y ∷ ys)) in omega (arith, more, once n) in
    let apart : bytes_eq (name y) (name x) ≡ false = false_from_ne_true (bytes_eq (name y) (name x)) (λ e. twice (name y) (name x) (map name ys) e (once (name y))) in
    and_from (comes_before (name x) (name y)) (is_ascending (map name (y ∷ ys))) (before_back (name y) (name x) (sorted 0 x (omega arith) (omega arith)) apart) (ascends_once name (y ∷ ys) tail fewer)
  where
    twice : (n m : List ℕ) (ms : List (List ℕ)) → bytes_eq n m ≡ true → sum_by (hit n) (m ∷ n ∷ ms) ≤ 1 → ⊥
    twice n m ms e h =
        let first : hit n m ≡ 1 = ap (λ (b : Bool). cond b 1 0) e in
        let second : hit n n ≡ 1 = ap (λ (b : Bool). cond b 1 0) (bytes_eq-same n) in
        omega (arith, sum_by-cons (hit n) m (n ∷ ms), sum_by-cons (hit n) n ms, first, second, h)

-- ---- two lists of the same items whose names ascend are one

first_before : {A : Type 0} (name : A → List ℕ) (x : A) (xs : List A) (z : A) → is_ascending (map name (x ∷ xs)) ≡ true → Contains xs z → comes_before (name x) (name z) ≡ true
first_before name x [] z h has = absurd (omega (arith, has.1))
first_before {A} name x (y ∷ ys) z h has =
    let a = and_parts (comes_before (name x) (name y)) (is_ascending (map name (y ∷ ys))) h in
    ⊎_elim
    (λ e. subst (λ (w : A). comes_before (name x) (name w) ≡ true) (sym e) a.0)
    (λ later. before_on (name x) (name y) (name z) a.0 (first_before name y ys z a.1 later))
    (in_cases y ys z has)

rest_ascends : {A : Type 0} (name : A → List ℕ) (x : A) (xs : List A) → is_ascending (map name (x ∷ xs)) ≡ true → is_ascending (map name xs) ≡ true
rest_ascends name x xs h = (and_parts (comes_first (name x) (map name xs)) (is_ascending (map name xs)) h).1

not_both : (x y : List ℕ) → comes_before x y ≡ true → comes_before y x ≡ true → ⊥
not_both x y a b = both_ways (comes_before x x) (not_before_itself x) (before_on x y x a b)

-- what the one has after its first, the other has after its first
rest_has : {A : Type 0} (name : A → List ℕ) (x y : A) (xs ys : List A) (z : A) → x ≡ y → is_ascending (map name (x ∷ xs)) ≡ true → Contains xs z → Contains (y ∷ ys) z → Contains ys z
rest_has {A} name x y xs ys z same up has both =
    ⊎_elim
    (λ e. absurd (both_ways (comes_before (name x) (name x)) (not_before_itself (name x)) (subst (λ (w : A). comes_before (name x) (name w) ≡ true) (e ∙ sym same) (first_before name x xs z up has))))
    (λ later. later)
    (in_cases y ys z both)

pub same_list : {A : Type 0} (name : A → List ℕ) (xs ys : List A) → is_ascending (map name xs) ≡ true → is_ascending (map name ys) ≡ true → ((z : A) → Contains xs z → Contains ys z) → ((z : A) → Contains ys z → Contains xs z) → xs ≡ ys
same_list name [] [] up more there back = refl
same_list name [] (y ∷ ys) up more there back = absurd (omega (arith, (back y (in_first y ys)).1))
same_list name (x ∷ xs) [] up more there back = absurd (omega (arith, (there x (in_first x xs)).1))
same_list {A} name (x ∷ xs) (y ∷ ys) up more there back =
    let first : x ≡ y =
    ⊎_elim
    (λ e. e)
    (λ later. ⊎_elim
    (λ e. sym e)
    (λ other. absurd (not_both (name x) (name y) (first_before name x xs y up other) (first_before name y ys x more later)))
    (in_cases x xs y (back y (in_first y ys))))
    (in_cases y ys x (there x (in_first x xs))) in
    ap₂ ◌∷◌ first (same_list name xs ys (rest_ascends name x xs up) (rest_ascends name y ys more)
    (λ z has. rest_has name x y xs ys z first up has (there z (in_rest x xs z has)))
    (λ z has. rest_has name y x ys xs z (sym first) more has (back z (in_rest y ys z has))))

-- ---- hence what a sort makes of a list is what sorting by insertion makes of it

pub sort_is : {A : Type 0} (name : A → List ℕ) (xs ys : List A) → are_distinct (map name xs) ≡ true → IsPermutation xs ys → IsSortedBy (λ x y. comes_before (name x) (name y)) ys → ys ≡ sorted_by name xs
sort_is name xs ys distinct moved sorted =
    let once : (n : List ℕ) → sum_by (hit n) (map name ys) ≤ 1 = λ n. let same = sum_by-IsPermutation (hit n) (map name xs) (map name ys) (IsPermutation-map name xs ys moved) in omega (arith, same, hits_distinct n (map name xs) distinct) in
    same_list name ys (sorted_by name xs) (ascends_once name ys sorted once) (is_ascending-sorted_by name xs distinct)
    (λ z has. Contains-permutation xs (sorted_by name xs) z (permuted_by name xs) (Contains-permutation ys xs z (IsPermutation-sym xs ys moved) has))
    (λ z has. Contains-permutation xs ys z moved (Contains-permutation (sorted_by name xs) xs z (IsPermutation-sym _ _ (permuted_by name xs)) has))
