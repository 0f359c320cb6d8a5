-- Lists that ascend by name.
use Rattle.std.proofs.Common.{◌≡◌, ⊎_elim, ◌⊎◌, ◌↔◌, ◌≢◌, ℕ, suc, ◌+◌, ◌<◌, ◌≤◌, Bool, true, false, not, ◌||◌, List, [], ◌∷◌, ◌++◌, length, map, take, drop, get_or, Contains, Ordering, refl, sym, ap, subst, ◌∙◌, inl, inr, arith, add-one, append_assoc}
use Rattle.std.specs.declared.cmp.Ordering.TheVariants.{Less, Equal, Greater}
use Rattle.std.specs.Cmp.Lexicographic.{slice_cmp}
use Rattle.std.specs.List.{list_all, list_any, insert, filter}
use Rattle.std.specs.Ordering.{is_lt, is_ge, is_eq, nat_cmp, ordering_reverse}
use Rattle.std.specs.Str.{bytes_eq}
use Rattle.std.proofs.Math.Seq.{drop-cons}
use Rattle.std.proofs.lemmas.Bool.{cases_Bool, and_parts, and_from, or_parts, not-true, true≢false, false≢true, both_ways, false_from_ne_true, or_right, or_cases}
use Rattle.std.proofs.lemmas.Cmp.{nat_list_cmp_total, tied_itself}
use Rattle.std.proofs.lemmas.List.{take_more, take_all, drop_all}
use Rattle.std.proofs.lemmas.Map.Made.{is_member-Decides}
use Rattle.std.proofs.lemmas.Map.Text.{is_eq-slice_cmp}
use Rattle.std.proofs.lemmas.Slice.Eq.{bytes_eq-Decides}
use Rattle.fp_base.proofs.Texts.{bytes_eq-true, less_from}
use Rattle.fp_base.proofs.Lists.{in_cases, in_none}
use Rattle.fp_host.specs.Reads.{comes_first, is_ascending}
use Rattle.fp_keyfile.specs.KeyFile.{are_distinct}
use Rattle.fp_small.specs.Order.{comes_before, inserted, sorted_onto, sorted_by, removed}

pub bytes_eq-differ : (xs ys : List ℕ) → bytes_eq xs ys ≡ false → bytes_eq ys xs ≡ false
bytes_eq-differ xs ys e = false_from_ne_true (bytes_eq ys xs) (λ t. both_ways (bytes_eq xs ys) e ((bytes_eq-Decides xs ys).1 (sym (bytes_eq-true ys xs t))))

-- ---- the order of two names

lt-from_ge : (o : Ordering) → is_ge o ≡ false → is_lt o ≡ true
lt-from_ge Less h = refl
lt-from_ge Equal h = absurd (true≢false h)
lt-from_ge Greater h = absurd (true≢false h)

no_lt-from_ge : (o : Ordering) → is_ge o ≡ true → is_lt o ≡ false
no_lt-from_ge Less h = absurd (false≢true h)
no_lt-from_ge Equal h = refl
no_lt-from_ge Greater h = refl

pub before-from_ge : (x y : List ℕ) (r : Bool) → r ≡ is_ge (slice_cmp nat_cmp x y) → r ≡ false → comes_before x y ≡ true
before-from_ge x y r is h = lt-from_ge (slice_cmp nat_cmp x y) (sym is ∙ h)

pub not_before-from_ge : (x y : List ℕ) (r : Bool) → r ≡ is_ge (slice_cmp nat_cmp x y) → r ≡ true → comes_before x y ≡ false
not_before-from_ge x y r is h = no_lt-from_ge (slice_cmp nat_cmp x y) (sym is ∙ h)

turned : (o p : Ordering) → o ≡ ordering_reverse p → is_lt o ≡ false → is_eq o ≡ false → is_lt p ≡ true
turned o Less r l e = refl
turned o Equal r l e = absurd (both_ways (is_eq o) e (ap is_eq r))
turned o Greater r l e = absurd (both_ways (is_lt o) l (ap is_lt r))

-- of two names one comes before the other
pub before_back : (x y : List ℕ) → comes_before x y ≡ false → bytes_eq x y ≡ false → comes_before y x ≡ true
before_back x y b e = turned (slice_cmp nat_cmp x y) (slice_cmp nat_cmp y x) (nat_list_cmp_total.antisymm x y) b (is_eq-slice_cmp x y ∙ e)

pub before_on : (x y z : List ℕ) → comes_before x y ≡ true → comes_before y z ≡ true → comes_before x z ≡ true
before_on x y z a b = ap is_lt (nat_list_cmp_total.trans x y z (less_from (slice_cmp nat_cmp x y) a) (less_from (slice_cmp nat_cmp y z) b))

pub not_before_itself : (x : List ℕ) → comes_before x x ≡ false
not_before_itself x = ap is_lt (tied_itself nat_list_cmp_total x)

pub before_differs : (x y : List ℕ) → comes_before x y ≡ true → bytes_eq y x ≡ false
before_differs x y b = false_from_ne_true (bytes_eq y x) (λ e. both_ways (comes_before x x) (not_before_itself x) (subst (λ (z : List ℕ). comes_before x z ≡ true) (bytes_eq-true y x e) b))

-- ---- where an item is put

pub inserted_on : {A : Type 0} (name : A → List ℕ) (xs : List A) (i : ℕ) (y x : A) → i < length xs → y ≡ get_or xs i y → comes_before (name y) (name x) ≡ true
    → inserted name xs x ≡ take i xs ++ inserted name (drop i xs) x → inserted name xs x ≡ take (i + 1) xs ++ inserted name (drop (i + 1) xs) x
inserted_on {A} name xs i y x low is before so_far =
    let split : drop i xs ≡ y ∷ drop (i + 1) xs = drop-cons xs i y low ∙ ap (λ (z : A). z ∷ drop (suc i) xs) (sym is) ∙ ap (λ (k : ℕ). y ∷ drop k xs) (sym (add-one i)) in
    let here : inserted name (drop i xs) x ≡ y ∷ inserted name (drop (i + 1) xs) x = rw (split, before) refl in
    let front : take (i + 1) xs ≡ take i xs ++ y ∷ [] = take_more xs i y low ∙ ap (λ (z : A). take i xs ++ z ∷ []) (sym is) in
    so_far ∙ ap (λ (zs : List A). take i xs ++ zs) here ∙ sym (append_assoc (take i xs) (y ∷ []) (inserted name (drop (i + 1) xs) x)) ∙ ap (λ (zs : List A). zs ++ inserted name (drop (i + 1) xs) x) (sym front)

pub inserted_here : {A : Type 0} (name : A → List ℕ) (xs : List A) (i : ℕ) (y x : A) → i < length xs → y ≡ get_or xs i y → comes_before (name y) (name x) ≡ false
    → inserted name xs x ≡ take i xs ++ inserted name (drop i xs) x → inserted name xs x ≡ insert xs i x
inserted_here {A} name xs i y x low is before so_far =
    let split : drop i xs ≡ y ∷ drop (suc i) xs = drop-cons xs i y low ∙ ap (λ (z : A). z ∷ drop (suc i) xs) (sym is) in
    let here : inserted name (drop i xs) x ≡ x ∷ drop i xs = rw (split, before) refl in
    so_far ∙ ap (λ (zs : List A). take i xs ++ zs) here

pub inserted_last : {A : Type 0} (name : A → List ℕ) (xs : List A) (i : ℕ) (x : A) → length xs ≤ i → inserted name xs x ≡ take i xs ++ inserted name (drop i xs) x → inserted name xs x ≡ insert xs (length xs) x
inserted_last {A} name xs i x high so_far =
    so_far ∙ ap (λ (zs : List A). take i xs ++ inserted name zs x) (drop_all i xs high) ∙ ap (λ (zs : List A). zs ++ x ∷ []) (take_all i xs high ∙ sym (take_all (length xs) xs (omega arith)))
    ∙ ap (λ (zs : List A). take (length xs) xs ++ x ∷ zs) (sym (drop_all (length xs) xs (omega arith)))

-- ---- what holds of a list with one more

pub map-inserted : {A : Type 0} (name : A → List ℕ) (xs : List A) (x : A) → map name (inserted name xs x) ≡ inserted (λ p. p) (map name xs) (name x)
map-inserted name [] x = refl
map-inserted name (y ∷ ys) x =
    elim (cases_Bool (comes_before (name y) (name x))) [
      | inl e ↦ rw e (ap (λ (zs : List (List ℕ)). name y ∷ zs) (map-inserted name ys x))
      | inr e ↦ rw e refl
    ]

pub length-inserted : {A : Type 0} (name : A → List ℕ) (xs : List A) (x : A) → length (inserted name xs x) ≡ length xs + 1
length-inserted name [] x = refl
length-inserted name (y ∷ ys) x =
    elim (cases_Bool (comes_before (name y) (name x))) [
      | inl e ↦ rw e (omega (arith, length-inserted name ys x))
      | inr e ↦ rw e (omega arith)
    ]

pub list_all-inserted : {A : Type 0} (p : A → Bool) (name : A → List ℕ) (xs : List A) (x : A) → list_all p xs ≡ true → p x ≡ true → list_all p (inserted name xs x) ≡ true
list_all-inserted p name [] x h good = rw good refl
list_all-inserted p name (y ∷ ys) x h good =
    let a = and_parts (p y) (list_all p ys) h in
    elim (cases_Bool (comes_before (name y) (name x))) [
      | inl e ↦ rw e (and_from (p y) (list_all p (inserted name ys x)) a.0 (list_all-inserted p name ys x a.1 good))
      | inr e ↦ rw e (and_from (p x) (list_all p (y ∷ ys)) good h)
    ]

or_turn : (a b c : Bool) → (a || (b || c)) ≡ (b || (a || c))
or_turn true true c = refl
or_turn true false c = refl
or_turn false true c = refl
or_turn false false c = refl

pub list_any-inserted : {A : Type 0} (p : A → Bool) (name : A → List ℕ) (xs : List A) (x : A) → list_any p (inserted name xs x) ≡ (p x || list_any p xs)
list_any-inserted p name [] x = refl
list_any-inserted p name (y ∷ ys) x =
    elim (cases_Bool (comes_before (name y) (name x))) [
      | inl e ↦ rw (e, list_any-inserted p name ys x) (or_turn (p y) (p x) (list_any p ys))
      | inr e ↦ rw e refl
    ]

comes_first-inserted : (w : List ℕ) (xs : List (List ℕ)) (x : List ℕ) → comes_first w xs ≡ true → comes_before w x ≡ true → comes_first w (inserted (λ p. p) xs x) ≡ true
comes_first-inserted w [] x h b = b
comes_first-inserted w (y ∷ ys) x h b =
    elim (cases_Bool (comes_before y x)) [
      | inl e ↦ rw e h
      | inr e ↦ rw e b
    ]

pub is_ascending-inserted : (xs : List (List ℕ)) (x : List ℕ) → is_ascending xs ≡ true → list_any (bytes_eq x) xs ≡ false → is_ascending (inserted (λ p. p) xs x) ≡ true
is_ascending-inserted [] x h new = refl
is_ascending-inserted (y ∷ ys) x h new =
    let a = and_parts (comes_first y ys) (is_ascending ys) h in
    let n = or_parts (bytes_eq x y) (list_any (bytes_eq x) ys) new in
    elim (cases_Bool (comes_before y x)) [
      | inl e ↦ rw e (and_from (comes_first y (inserted (λ p. p) ys x)) (is_ascending (inserted (λ p. p) ys x)) (comes_first-inserted y ys x a.0 e) (is_ascending-inserted ys x a.1 n.1))
      | inr e ↦ rw e (and_from (comes_before x y) (is_ascending (y ∷ ys)) (before_back y x e (bytes_eq-differ x y n.0)) h)
    ]

-- ---- a list in order

pub list_all-sorted_onto : {A : Type 0} (p : A → Bool) (name : A → List ℕ) (ys xs : List A) → list_all p ys ≡ true → list_all p xs ≡ true → list_all p (sorted_onto name ys xs) ≡ true
list_all-sorted_onto p name ys [] h all = h
list_all-sorted_onto p name ys (x ∷ xs) h all =
    let a = and_parts (p x) (list_all p xs) all in
    list_all-sorted_onto p name (inserted name ys x) xs (list_all-inserted p name ys x h a.0) a.1

pub length-sorted_onto : {A : Type 0} (name : A → List ℕ) (ys xs : List A) → length (sorted_onto name ys xs) ≡ length ys + length xs
length-sorted_onto name ys [] = omega arith
length-sorted_onto name ys (x ∷ xs) = omega (arith, length-sorted_onto name (inserted name ys x) xs, length-inserted name ys x)

pub map-sorted_onto : {A : Type 0} (name : A → List ℕ) (ys xs : List A) → map name (sorted_onto name ys xs) ≡ sorted_onto (λ p. p) (map name ys) (map name xs)
map-sorted_onto name ys [] = refl
map-sorted_onto name ys (x ∷ xs) = map-sorted_onto name (inserted name ys x) xs ∙ ap (λ (zs : List (List ℕ)). sorted_onto (λ p. p) zs (map name xs)) (map-inserted name ys x)

-- none of the names is among the others
are_apart : List (List ℕ) → List (List ℕ) → Bool
are_apart ys xs = list_all (λ x. not (list_any (bytes_eq x) ys)) xs

are_apart-inserted : (ys xs : List (List ℕ)) (x : List ℕ) → are_apart ys xs ≡ true → list_any (bytes_eq x) xs ≡ false → are_apart (inserted (λ p. p) ys x) xs ≡ true
unfolding are_apart
are_apart-inserted ys [] x h new = refl
are_apart-inserted ys (z ∷ zs) x h new =
    let a = and_parts (not (list_any (bytes_eq z) ys)) (are_apart ys zs) h in
    let n = or_parts (bytes_eq x z) (list_any (bytes_eq x) zs) new in
    and_from (not (list_any (bytes_eq z) (inserted (λ p. p) ys x))) (are_apart (inserted (λ p. p) ys x) zs)
    (rw (list_any-inserted (bytes_eq z) (λ p. p) ys x, bytes_eq-differ x z n.0) a.0)
    (are_apart-inserted ys zs x a.1 n.1)

are_apart-none : (xs : List (List ℕ)) → are_apart [] xs ≡ true
unfolding are_apart
are_apart-none [] = refl
are_apart-none (x ∷ xs) = are_apart-none xs

is_ascending-sorted_onto : (ys xs : List (List ℕ)) → is_ascending ys ≡ true → are_distinct xs ≡ true → are_apart ys xs ≡ true → is_ascending (sorted_onto (λ p. p) ys xs) ≡ true
unfolding are_apart
is_ascending-sorted_onto ys [] h distinct apart = h
is_ascending-sorted_onto ys (x ∷ xs) h distinct apart =
    let a = and_parts (not (list_any (bytes_eq x) ys)) (are_apart ys xs) apart in
    let d = and_parts (not (list_any (bytes_eq x) xs)) (are_distinct xs) distinct in
    is_ascending-sorted_onto (inserted (λ p. p) ys x) xs (is_ascending-inserted ys x h (not-true _ a.0)) d.1 (are_apart-inserted ys xs x a.1 (not-true _ d.0))

pub is_ascending-sorted_by : {A : Type 0} (name : A → List ℕ) (xs : List A) → are_distinct (map name xs) ≡ true → is_ascending (map name (sorted_by name xs)) ≡ true
is_ascending-sorted_by name xs distinct = rw (map-sorted_onto name [] xs) (is_ascending-sorted_onto [] (map name xs) refl distinct (are_apart-none (map name xs)))

pub is_ascending-sorted_onto_none : (xs : List (List ℕ)) → are_distinct xs ≡ true → is_ascending (sorted_onto (λ p. p) [] xs) ≡ true
is_ascending-sorted_onto_none xs distinct = is_ascending-sorted_onto [] xs refl distinct (are_apart-none xs)

-- an ascending list is in order already
before_all : {A : Type 0} (name : A → List ℕ) (ys : List A) (x : A) (xs : List A) → is_ascending (map name (ys ++ x ∷ xs)) ≡ true → list_all (λ y. comes_before (name y) (name x)) ys ≡ true
before_all name [] x xs h = refl
before_all name (y ∷ []) x xs h = and_from (comes_before (name y) (name x)) true (and_parts (comes_before (name y) (name x)) (is_ascending (name x ∷ map name xs)) h).0 refl
before_all name (y ∷ z ∷ ys) x xs h =
    let a = and_parts (comes_before (name y) (name z)) (is_ascending (map name (z ∷ (ys ++ x ∷ xs)))) h in
    let rest = before_all name (z ∷ ys) x xs a.1 in
    let zx = (and_parts (comes_before (name z) (name x)) (list_all (λ w. comes_before (name w) (name x)) ys) rest).0 in
    and_from (comes_before (name y) (name x)) (list_all (λ w. comes_before (name w) (name x)) (z ∷ ys)) (before_on (name y) (name z) (name x) a.0 zx) rest

inserted_remainder : {A : Type 0} (name : A → List ℕ) (ys : List A) (x : A) → list_all (λ y. comes_before (name y) (name x)) ys ≡ true → inserted name ys x ≡ ys ++ x ∷ []
inserted_remainder name [] x h = refl
inserted_remainder {A} name (y ∷ ys) x h =
    let a = and_parts (comes_before (name y) (name x)) (list_all (λ w. comes_before (name w) (name x)) ys) h in
    rw a.0 (ap (λ (zs : List A). y ∷ zs) (inserted_remainder name ys x a.1))

sorted_onto-ascending : {A : Type 0} (name : A → List ℕ) (ys xs : List A) → is_ascending (map name (ys ++ xs)) ≡ true → sorted_onto name ys xs ≡ ys ++ xs
sorted_onto-ascending name ys [] h = sym (append-none ys)
  where
    append-none : {A : Type 0} (zs : List A) → zs ++ [] ≡ zs
    append-none [] = refl
    append-none {A} (z ∷ zs) = ap (λ (ws : List A). z ∷ ws) (append-none zs)
sorted_onto-ascending {A} name ys (x ∷ xs) h =
    let e : inserted name ys x ≡ ys ++ x ∷ [] = inserted_remainder name ys x (before_all name ys x xs h) in
    let again : (ys ++ x ∷ []) ++ xs ≡ ys ++ x ∷ xs = append_assoc ys (x ∷ []) xs in
    ap (λ (zs : List A). sorted_onto name zs xs) e ∙ sorted_onto-ascending name (ys ++ x ∷ []) xs (subst (λ (zs : List A). is_ascending (map name zs) ≡ true) (sym again) h) ∙ again

pub sorted_by-ascending : {A : Type 0} (name : A → List ℕ) (xs : List A) → is_ascending (map name xs) ≡ true → sorted_by name xs ≡ xs
sorted_by-ascending name xs h = sorted_onto-ascending name [] xs h

-- ---- a list without an item

pub removed-filter : {A : Type 0} (name : A → List ℕ) (xs : List A) (x : List ℕ) → removed name xs x ≡ filter (λ y. not (bytes_eq (name y) x)) xs
removed-filter name [] x = refl
removed-filter {A} name (y ∷ ys) x =
    elim (cases_Bool (bytes_eq (name y) x)) [
      | inl e ↦ rw e (removed-filter name ys x)
      | inr e ↦ rw e (ap (λ (zs : List A). y ∷ zs) (removed-filter name ys x))
    ]

pub list_all-removed : {A : Type 0} (p : A → Bool) (name : A → List ℕ) (xs : List A) (x : List ℕ) → list_all p xs ≡ true → list_all p (removed name xs x) ≡ true
list_all-removed p name [] x h = refl
list_all-removed p name (y ∷ ys) x h =
    let a = and_parts (p y) (list_all p ys) h in
    elim (cases_Bool (bytes_eq (name y) x)) [
      | inl e ↦ rw e (list_all-removed p name ys x a.1)
      | inr e ↦ rw e (and_from (p y) (list_all p (removed name ys x)) a.0 (list_all-removed p name ys x a.1))
    ]

pub length-removed : {A : Type 0} (name : A → List ℕ) (xs : List A) (x : List ℕ) → length (removed name xs x) ≤ length xs
length-removed name [] x = omega arith
length-removed name (y ∷ ys) x =
    elim (cases_Bool (bytes_eq (name y) x)) [
      | inl e ↦ rw e (omega (arith, length-removed name ys x))
      | inr e ↦ rw e (omega (arith, length-removed name ys x))
    ]

pub comes_first-on : (w y : List ℕ) (ys : List (List ℕ)) → comes_before w y ≡ true → comes_first y ys ≡ true → comes_first w ys ≡ true
comes_first-on w y [] b h = refl
comes_first-on w y (z ∷ zs) b h = before_on w y z b h

comes_first-removed : (w : List ℕ) (xs : List (List ℕ)) (x : List ℕ) → comes_first w xs ≡ true → is_ascending xs ≡ true → comes_first w (removed (λ p. p) xs x) ≡ true
comes_first-removed w [] x h asc = refl
comes_first-removed w (y ∷ ys) x h asc =
    let a = and_parts (comes_first y ys) (is_ascending ys) asc in
    elim (cases_Bool (bytes_eq y x)) [
      | inl e ↦ rw e (comes_first-removed w ys x (comes_first-on w y ys h a.0) a.1)
      | inr e ↦ rw e h
    ]

pub is_ascending-removed : (xs : List (List ℕ)) (x : List ℕ) → is_ascending xs ≡ true → is_ascending (removed (λ p. p) xs x) ≡ true
is_ascending-removed [] x h = refl
is_ascending-removed (y ∷ ys) x h =
    let a = and_parts (comes_first y ys) (is_ascending ys) h in
    elim (cases_Bool (bytes_eq y x)) [
      | inl e ↦ rw e (is_ascending-removed ys x a.1)
      | inr e ↦ rw e (and_from (comes_first y (removed (λ p. p) ys x)) (is_ascending (removed (λ p. p) ys x)) (comes_first-removed y ys x a.0 a.1) (is_ascending-removed ys x a.1))
    ]

-- ---- what a list of names has

pub contains : (xs : List (List ℕ)) (q : List ℕ) → list_any (bytes_eq q) xs ≡ true → Contains xs q
contains xs q h = (is_member-Decides bytes_eq-Decides xs q).0 h

pub is_contained : (xs : List (List ℕ)) (q : List ℕ) → Contains xs q → list_any (bytes_eq q) xs ≡ true
is_contained xs q has = (is_member-Decides bytes_eq-Decides xs q).1 has

pub lacks : (xs : List (List ℕ)) (q : List ℕ) → (Contains xs q → ⊥) → list_any (bytes_eq q) xs ≡ false
lacks xs q none = false_from_ne_true (list_any (bytes_eq q) xs) (λ t. none (contains xs q t))

pub Contains-inserted : (xs : List (List ℕ)) (p q : List ℕ) → Contains (inserted (λ x. x) xs p) q ↔ ((q ≡ p) ⊎ Contains xs q)
Contains-inserted xs p q = (
  λ has. ⊎_elim (λ e. inl (bytes_eq-true q p e)) (λ t. inr (contains xs q t)) (or_cases (bytes_eq q p) (list_any (bytes_eq q) xs) (sym (list_any-inserted (bytes_eq q) (λ x. x) xs p) ∙ is_contained (inserted (λ x. x) xs p) q has)),
  λ either. contains (inserted (λ x. x) xs p) q (list_any-inserted (bytes_eq q) (λ x. x) xs p ∙ ⊎_elim (λ e. ap (λ (b : Bool). b || list_any (bytes_eq q) xs) ((bytes_eq-Decides q p).1 e)) (λ has. or_right (bytes_eq q p) (list_any (bytes_eq q) xs) (is_contained xs q has)) either),
)

list_any-removed : (xs : List (List ℕ)) (p q : List ℕ) → bytes_eq p q ≡ false → list_any (bytes_eq q) (removed (λ x. x) xs p) ≡ list_any (bytes_eq q) xs
list_any-removed [] p q h = refl
list_any-removed (y ∷ ys) p q h =
    elim (cases_Bool (bytes_eq y p)) [
      | inl e ↦ rw e (list_any-removed ys p q h ∙ sym (ap (λ (b : Bool). b || list_any (bytes_eq q) ys) (other y e)))
      | inr e ↦ rw e (ap (λ (b : Bool). bytes_eq q y || b) (list_any-removed ys p q h))
    ]
  where
    other : (y : List ℕ) → bytes_eq y p ≡ true → bytes_eq q y ≡ false
    other y e = bytes_eq-differ y q (subst (λ (z : List ℕ). bytes_eq z q ≡ false) (sym (bytes_eq-true y p e)) h)

pub none_left : (xs : List (List ℕ)) (p : List ℕ) → list_any (bytes_eq p) (removed (λ x. x) xs p) ≡ false
none_left [] p = refl
none_left (y ∷ ys) p =
    elim (cases_Bool (bytes_eq y p)) [
      | inl e ↦ rw e (none_left ys p)
      | inr e ↦ rw (e, bytes_eq-differ y p e) (none_left ys p)
    ]

pub Contains-removed : (xs : List (List ℕ)) (p q : List ℕ) → Contains (removed (λ x. x) xs p) q ↔ (Contains xs q × (q ≢ p))
Contains-removed xs p q =
    elim (cases_Bool (bytes_eq p q)) [
      | inl e ↦ (λ has. absurd (both_ways (list_any (bytes_eq p) (removed (λ x. x) xs p)) (none_left xs p) (is_contained (removed (λ x. x) xs p) p (subst (Contains (removed (λ x. x) xs p)) (sym (bytes_eq-true p q e)) has))), λ both. absurd (both.1 (sym (bytes_eq-true p q e))))
      | inr e ↦ (λ has. (contains xs q (sym (list_any-removed xs p q e) ∙ is_contained (removed (λ x. x) xs p) q has), λ same. both_ways (bytes_eq p q) e ((bytes_eq-Decides p q).1 (sym same))), λ both. contains (removed (λ x. x) xs p) q (list_any-removed xs p q e ∙ is_contained xs q both.0))
    ]

-- without one in the middle
pub less_one : (xs : List (List ℕ)) (y : List ℕ) (ys : List (List ℕ)) → is_ascending (xs ++ y ∷ ys) ≡ true → is_ascending (xs ++ ys) ≡ true
less_one [] y ys h = (and_parts (comes_first y ys) (is_ascending ys) h).1
less_one (x ∷ []) y ys h =
    let a = and_parts (comes_first x (y ∷ ys)) (is_ascending (y ∷ ys)) h in
    let b = and_parts (comes_first y ys) (is_ascending ys) a.1 in
    and_from (comes_first x ys) (is_ascending ys) (over ys a.0 b.0) b.1
  where
    over : (zs : List (List ℕ)) → comes_first x (y ∷ []) ≡ true → comes_first y zs ≡ true → comes_first x zs ≡ true
    over [] first second = refl
    over (z ∷ zs) first second = before_on x y z first second
less_one (x ∷ w ∷ xs) y ys h =
    let a = and_parts (comes_first x (w ∷ (xs ++ y ∷ ys))) (is_ascending (w ∷ (xs ++ y ∷ ys))) h in
    and_from (comes_first x (w ∷ (xs ++ ys))) (is_ascending (w ∷ (xs ++ ys))) a.0 (less_one (w ∷ xs) y ys a.1)

-- a list whose texts ascend has no object twice
pub first_below : (x : List ℕ) (ys : List (List ℕ)) (z : List ℕ) → comes_first x ys ≡ true → is_ascending ys ≡ true → Contains ys z → comes_before x z ≡ true
first_below x [] z first h has = absurd (in_none z has)
first_below x (y ∷ ys) z first h has = elim (in_cases y ys z has) [
  | inl same ↦ subst (λ (w : List ℕ). comes_before x w ≡ true) (sym same) first
  | inr later ↦
      let a = and_parts (comes_first y ys) (is_ascending ys) h in
      before_on x y z first (first_below y ys z a.0 a.1 later)
]
