-- What metadata takes as a pattern of names, the filter takes as one.
use Rattle.std.proofs.Common.{◌≡◌, ◌-◌, ◌≤◌, ℕ, Bool, true, false, cond, ◌&&◌, ◌||◌, leb, List, [], ◌∷◌, ◌++◌, length, take, drop, codes, refl, ap, arith}
use Rattle.std.specs.List.{list_all, list_any, slice_split, onto_first}
use Rattle.std.proofs.lemmas.Bool.{and_parts, and_from, or_left, or_right, false≢true}
use Rattle.std.proofs.lemmas.Bool.Decides.{nat_tests}
use Rattle.fp_name.specs.Bytes.{is_word_start, is_word, is_dashed, is_dot, begins_with}
use Rattle.fp_name.specs.Grammar.{is_element, is_last_element, are_elements, is_id}
use Rattle.fp_name.proofs.Bytes.{word_dashed}
use Rattle.fl_meta.specs.Patterns.{is_bus_start, is_bus_element, are_bus_elements, is_bus_name, is_pattern}
use Rattle.bus_frame.specs.Names as names
use Rattle.bus_frame.specs.declared.names.Alphabet.TheVariants.{WellKnown}
use Rattle.bus_policy.specs.Levels as levels

-- ---- bytes and elements

dashed_goes_on : (c : ℕ) → is_dashed c ≡ true → names.continues_element WellKnown c ≡ true
dashed_goes_on c h = grind (arith, nat_tests)

start_begins : (c : ℕ) → is_bus_start c ≡ true → names.begins_element WellKnown c ≡ true
start_begins c h = grind (arith, nat_tests)

wider : {A : Type 0} (p q : A → Bool) → ((x : A) → p x ≡ true → q x ≡ true) → (xs : List A) → list_all p xs ≡ true → list_all q xs ≡ true
wider p q step [] h = refl
wider p q step (x ∷ xs) h =
    let a = and_parts (p x) (list_all p xs) h in
    and_from (q x) (list_all q xs) (step x a.0) (wider p q step xs a.1)

element : (text : List ℕ) → is_bus_element text ≡ true → names.is_element WellKnown text ≡ true
element [] h = absurd (false≢true h)
element (c ∷ cs) h =
    let a = and_parts (is_bus_start c) (list_all is_dashed (c ∷ cs)) h in
    let b = and_parts (is_dashed c) (list_all is_dashed cs) a.1 in
    and_from (names.begins_element WellKnown c) (list_all (names.continues_element WellKnown) cs) (start_begins c a.0) (wider is_dashed (names.continues_element WellKnown) dashed_goes_on cs b.1)

elements : (text : List ℕ) → are_bus_elements text ≡ true → names.are_elements WellKnown 46 text ≡ true
elements text h = wider is_bus_element (names.is_element WellKnown) element (slice_split is_dot text) h

-- ---- two elements have a dot between them

onto_keeps : (c : ℕ) (parts : List (List ℕ)) → leb 2 (length (onto_first c parts)) ≡ true → leb 2 (length parts) ≡ true
onto_keeps c [] h = absurd (false≢true h)
onto_keeps c (part ∷ parts) h = h

dot_between : (text : List ℕ) → leb 2 (length (slice_split is_dot text)) ≡ true → list_any is_dot text ≡ true
dot_between [] h = absurd (false≢true h)
dot_between (c ∷ cs) h = here (is_dot c) refl (dot_between cs) h
  where
    here : (b : Bool) → is_dot c ≡ b → (leb 2 (length (slice_split is_dot cs)) ≡ true → list_any is_dot cs ≡ true) → leb 2 (length (cond b ([] ∷ slice_split is_dot cs) (onto_first c (slice_split is_dot cs)))) ≡ true → (is_dot c || list_any is_dot cs) ≡ true
    here true e rest h = or_left (is_dot c) (list_any is_dot cs) e
    here false e rest h = or_right (is_dot c) (list_any is_dot cs) (rest (onto_keeps c (slice_split is_dot cs) h))

name : (text : List ℕ) → is_bus_name text ≡ true → names.is_well_known text ≡ true
unfolding names.is_well_known
name text h =
    let a = and_parts (leb (length text) 255) (leb 2 (length (slice_split is_dot text)) && are_bus_elements text) h in
    let b = and_parts (leb 2 (length (slice_split is_dot text))) (are_bus_elements text) a.1 in
    and_from (leb (length text) 255) (names.is_dotted WellKnown text) a.0 (and_from (list_any is_dot text) (names.are_elements WellKnown 46 text) (dot_between text b.0) (elements text b.1))

-- ---- patterns

open_pattern : (text : List ℕ) → levels.is_open text ≡ true → names.are_elements WellKnown 46 (levels.stem text) ≡ true → levels.is_pattern text ≡ true
unfolding levels.is_pattern
open_pattern text e h = or_right (names.is_well_known text) (levels.is_open text && names.are_elements WellKnown 46 (levels.stem text)) (and_from (levels.is_open text) (names.are_elements WellKnown 46 (levels.stem text)) e h)

pattern_by : (b : Bool) (text : List ℕ) → levels.is_open text ≡ b → cond b (are_bus_elements (levels.stem text)) (is_bus_name text) ≡ true → levels.is_pattern text ≡ true
unfolding levels.is_pattern
pattern_by true text e h = open_pattern text e (elements (levels.stem text) h)
pattern_by false text e h = or_left (names.is_well_known text) (levels.is_open text && names.are_elements WellKnown 46 (levels.stem text)) (name text h)

pub same_pattern : (text : List ℕ) → is_pattern text ≡ true → levels.is_pattern text ≡ true
unfolding is_pattern
same_pattern text h = pattern_by (levels.is_open text) text refl h

-- ---- the patterns of a session

start_of_word : (c : ℕ) → is_word_start c ≡ true → is_bus_start c ≡ true
start_of_word c h = or_left (is_word_start c) _ h

begins_so : (text : List ℕ) → begins_with is_word_start text ≡ true → begins_with is_bus_start text ≡ true
begins_so [] h = h
begins_so (c ∷ cs) h = start_of_word c h

element_of_id : (text : List ℕ) → is_element text ≡ true → is_bus_element text ≡ true
element_of_id text h =
    let a = and_parts (begins_with is_word_start text) (list_all is_word text) h in
    and_from (begins_with is_bus_start text) (list_all is_dashed text) (begins_so text a.0) (wider is_word is_dashed word_dashed text a.1)

last_of_id : (text : List ℕ) → is_last_element text ≡ true → is_bus_element text ≡ true
last_of_id text h =
    let a = and_parts (begins_with is_word_start text) (list_all is_dashed text) h in
    and_from (begins_with is_bus_start text) (list_all is_dashed text) (begins_so text a.0) a.1

elements_of_id : (parts : List (List ℕ)) → are_elements parts ≡ true → list_all is_bus_element parts ≡ true
elements_of_id [] h = refl
elements_of_id (last ∷ []) h = and_from (is_bus_element last) true (last_of_id last h) refl
elements_of_id (part ∷ next ∷ more) h =
    let a = and_parts (is_element part) (are_elements (next ∷ more)) h in
    and_from (is_bus_element part) (list_all is_bus_element (next ∷ more)) (element_of_id part a.0) (elements_of_id (next ∷ more) a.1)

id_elements : (id : List ℕ) → is_id id ≡ true → are_bus_elements id ≡ true
unfolding is_id
id_elements id h =
    let a = and_parts (leb (length id) 255) (leb 3 (length (slice_split is_dot id)) && are_elements (slice_split is_dot id)) h in
    let b = and_parts (leb 3 (length (slice_split is_dot id))) (are_elements (slice_split is_dot id)) a.1 in
    elements_of_id (slice_split is_dot id) b.1

remainder : (n : ℕ) (xs ys : List ℕ) → n ≡ length xs → drop n (xs ++ ys) ≡ ys
remainder n xs ys e = rw e (all xs)
  where
    all : (zs : List ℕ) → drop (length zs) (zs ++ ys) ≡ ys
    all [] = refl
    all (z ∷ zs) = all zs

before : (n : ℕ) (xs ys : List ℕ) → n ≡ length xs → take n (xs ++ ys) ≡ xs
before n xs ys e = rw e (all xs)
  where
    all : (zs : List ℕ) → take (length zs) (zs ++ ys) ≡ zs
    all [] = refl
    all (z ∷ zs) = ap (λ (ws : List ℕ). z ∷ ws) (all zs)

longer : (xs : List ℕ) → length (xs ++ codes ".*") - 2 ≡ length xs
longer [] = refl
longer (x ∷ xs) = let more = longer xs in let two = at_least xs in omega (arith, more, two)
  where
    at_least : (zs : List ℕ) → 2 ≤ length (zs ++ codes ".*")
    at_least [] = omega arith
    at_least (z ∷ zs) = let more = at_least zs in omega (arith, more)

pub own_pattern : (id : List ℕ) → is_id id ≡ true → levels.is_pattern (id ++ codes ".*") ≡ true
own_pattern id h =
    open_pattern (id ++ codes ".*") (rw (remainder (length (id ++ codes ".*") - 2) id (codes ".*") (longer id)) refl)
    (rw (before (length (id ++ codes ".*") - 2) id (codes ".*") (longer id)) (elements id (id_elements id h)))

pub portal_pattern : levels.is_pattern (codes "org.freedesktop.portal.*") ≡ true
portal_pattern = open_pattern (codes "org.freedesktop.portal.*") refl refl
