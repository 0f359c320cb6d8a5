-- Names after an edit of one of them.
use Rattle.std.proofs.Common.{◌≡◌, ◌≢◌, ℕ, zero, suc, ◌+◌, ◌<◌, ◌≤◌, ◌&&◌, List, [], ◌∷◌, ◌++◌, length, get_or, set, take, drop, map, Bool, true, false, Option, Some, None, refl, sym, ◌∙◌, ap, subst, arith, inl, inr, vec_len, vec_capacity}
use Rattle.std.specs.Prelude.{insert}
use Rattle.std.proofs.lemmas.List.{take-append-drop, map_push}
use Rattle.std.specs.List.{list_all, find}
use Rattle.std.specs.Ordering.{is_lt}
use Rattle.std.specs.declared.cmp.Ordering.TheVariants.{Less, Greater}
use Rattle.std.proofs.lemmas.Bool.{and_parts, and_from, false_from_ne_true}
use Rattle.fp_base.proofs.Texts.{flip}
use Rattle.fp_host.specs.Paths.{Elements, Slot, absent, path_text, elements_of, set_at}
use Rattle.fp_host.proofs.PathTexts.{text_back}
use Rattle.fp_host.proofs.Separate.{path_decides, path_cases, set_same, set_other}
use Rattle.fp_memhost.specs.Names.{comes_before, ascends, IsAscending, is_at, name_at, slot_in, held_in, room_in, slot_of, names_of, earlier_of, IsAt, IsPlace, HasRoom, SameNames, PutsName, MayPutName, KeepsRoom}
use Rattle.fp_memhost.specs.declared.names.Name.{Name}
use Rattle.fp_host.specs.declared.host.Entry.{Entry}
use Rattle.fp_memhost.proofs.Finding.{find_here, find_front, set_hit, set_miss, append_hit, append_miss}
use Rattle.fp_memhost.proofs.Ordered.{compare, text_at, none_at}

is_at_same : (p : Elements) (name : Name) → name.path ≡ p → is_at p name ≡ true
is_at_same p name is = (path_decides p name.path).1 (sym is)

is_at_other : (q p : Elements) (name : Name) → name.path ≡ p → q ≢ p → is_at q name ≡ false
is_at_other q p name is ne = false_from_ne_true (is_at q name) (λ t. ne ((path_decides q name.path).0 t ∙ is))

-- the name at p is this one now, and each other name is the one that it was
pub record Edited (old new : List Name) (p : Elements) (name : Name) : Type 0 where
  pub at : (q : Elements) → name_at new q ≡ set_at (name_at old) p (Some name) q

pub edit_set : (names : List Name) (p : Elements) (i : ℕ) (name : Name) → IsAt names p i → name.path ≡ p → Edited names (set names i name) p name
edit_set names p i name is same = record {
  at = λ q. elim (path_cases q p) [
    | inl e ↦
        subst (λ (r : Elements). name_at (set names i name) r ≡ Some name) (sym e) (set_hit (is_at p) names i name is.low is.before (is_at_same p name same))
        ∙ sym (set_same (name_at names) p (Some name) q e)
    | inr ne ↦ set_miss (is_at q) names i name name (is_at_other q p (get_or names i name) (is.here name) ne) (is_at_other q p name same ne) ∙ sym (set_other (name_at names) p (Some name) q ne)
  ];
}

pub edit_insert : (names : List Name) (text : List ℕ) (p : Elements) (i : ℕ) (name : Name) → p ≡ elements_of text → IsPlace names text i → name.path ≡ p → Edited names (insert names i name) p name
edit_insert names text p i name of place same = record {
  at = λ q. elim (path_cases q p) [
    | inl e ↦
        subst (λ (r : Elements). name_at (insert names i name) r ≡ Some name) (sym e) (append_hit (is_at p) (take i names) (drop i names) name (find_front (is_at p) names i (none_at names p text i of place)) (is_at_same p name same))
        ∙ sym (set_same (name_at names) p (Some name) q e)
    | inr ne ↦
        append_miss (is_at q) (take i names) (drop i names) name (is_at_other q p name same ne) ∙ ap (find (is_at q)) (take-append-drop i names)
        ∙ sym (set_other (name_at names) p (Some name) q ne)
  ];
}

-- the name that stands at its place
pub name_there : (names : List Name) (p : Elements) (i : ℕ) (d : Name) → IsAt names p i → name_at names p ≡ Some (get_or names i d)
name_there names p i d is = find_here (is_at p) names i d is.low is.before (is_at_same p (get_or names i d) (is.here d))

-- a function of the name at each path
set_through : {A B : Type 0} (f : A → B) (g : Elements → A) (p : Elements) (a : A) (q : Elements) → f (set_at g p a q) ≡ set_at (λ r. f (g r)) p (f a) q
set_through f g p a q = elim (path_cases q p) [
  | inl e ↦ ap f (set_same g p a q e) ∙ sym (set_same (λ r. f (g r)) p (f a) q e)
  | inr ne ↦ ap f (set_other g p a q ne) ∙ sym (set_other (λ r. f (g r)) p (f a) q ne)
]

set_nothing : {A : Type 0} (g : Elements → A) (p : Elements) (a : A) (q : Elements) → a ≡ g p → set_at g p a q ≡ g q
set_nothing g p a q is = elim (path_cases q p) [
  | inl e ↦ set_same g p a q e ∙ is ∙ sym (ap g e)
  | inr ne ↦ set_other g p a q ne
]

module _ {old new : List Name} {p : Elements} {name : Name} (edit : Edited old new p name) where
  pub edited_names : (q : Elements) → names_of new q ≡ set_at (names_of old) p (slot_of name.entry) q
  edited_names q = ap slot_in (edit.at q) ∙ set_through slot_in (name_at old) p (Some name) q

  pub edited_earlier : (q : Elements) → earlier_of new q ≡ set_at (earlier_of old) p (map slot_of name.earlier.items) q
  edited_earlier q = ap held_in (edit.at q) ∙ set_through held_in (name_at old) p (Some name) q

  pub edited_same : slot_of name.entry ≡ names_of old p → map slot_of name.earlier.items ≡ earlier_of old p → SameNames old new
  edited_same e l = record {
    names = λ q. edited_names q ∙ set_nothing (names_of old) p (slot_of name.entry) q e;
    earlier = λ q. edited_earlier q ∙ set_nothing (earlier_of old) p (map slot_of name.earlier.items) q l;
  }

  pub edited_room : (n : ℕ) → vec_len name.earlier + n ≤ vec_capacity name.earlier → HasRoom new p n
  edited_room n room = record { room = subst (λ (o : Option Name). room_in o n) (sym (edit.at p ∙ set_same (name_at old) p (Some name) p refl)) room }

  pub edited_keeps : (used : ℕ) → ((n : ℕ) → HasRoom old p (n + used) → vec_len name.earlier + n ≤ vec_capacity name.earlier) → KeepsRoom used old new
  edited_keeps used here = record {
    room = λ q n had. elim (path_cases q p) [
      | inl e ↦ subst (λ (r : Elements). HasRoom new r n) (sym e) (edited_room n (here n (subst (λ (r : Elements). HasRoom old r (n + used)) e had)))
      | inr ne ↦ record { room = subst (λ (o : Option Name). room_in o n) (sym (edit.at q ∙ set_other (name_at old) p (Some name) q ne)) (less_room (name_at old q) n used had.room) }
    ];
  }
    where
      less_room : (o : Option Name) (n used : ℕ) → room_in o (n + used) → room_in o n
      less_room None n used room = room
      less_room (Some x) n used room = omega (arith, room)

-- names ascend after an edit
same_before : (x a b : Name) → a.path ≡ b.path → comes_before x a ≡ comes_before x b
same_before x a b is = ap (λ (r : Elements). is_lt (compare (path_text x.path) (path_text r))) is

all_set : (x : Name) (xs : List Name) (i : ℕ) (y : Name) → ((d : Name) → (get_or xs i d).path ≡ y.path) → list_all (comes_before x) (set xs i y) ≡ list_all (comes_before x) xs
all_set x [] i y same = refl
all_set x (z ∷ zs) zero y same = ap (λ b. b && list_all (comes_before x) zs) (same_before x y z (sym (same z)))
all_set x (z ∷ zs) (suc i) y same = ap (λ b. comes_before x z && b) (all_set x zs i y same)

pub ascends_set : (xs : List Name) (i : ℕ) (y : Name) → ((d : Name) → (get_or xs i d).path ≡ y.path) → ascends (set xs i y) ≡ ascends xs
ascends_set [] i y same = refl
ascends_set (x ∷ xs) zero y same = ap (λ (r : Elements). list_all (λ b. is_lt (compare (path_text r) (path_text b.path))) xs && ascends xs) (sym (same x))
ascends_set (x ∷ xs) (suc i) y same = ap (λ b. b && ascends (set xs i y)) (all_set x xs i y same) ∙ ap (λ b. list_all (comes_before x) xs && b) (ascends_set xs i y same)

all_insert : {A : Type 0} (p : A → Bool) (xs : List A) (i : ℕ) (y : A) → list_all p xs ≡ true → p y ≡ true → list_all p (insert xs i y) ≡ true
all_insert p xs zero y all is = and_from (p y) (list_all p xs) is all
all_insert p [] (suc i) y all is = and_from (p y) true is refl
all_insert p (x ∷ xs) (suc i) y all is = and_from (p x) (list_all p (insert xs i y)) (and_parts (p x) (list_all p xs) all).0 (all_insert p xs i y (and_parts (p x) (list_all p xs) all).1 is)

all_from : {A : Type 0} (p : A → Bool) (xs : List A) → ((k : ℕ) (d : A) → k < length xs → p (get_or xs k d) ≡ true) → list_all p xs ≡ true
all_from p [] each = refl
all_from p (x ∷ xs) each = and_from (p x) (list_all p xs) (each 0 x (omega arith)) (all_from p xs (λ k d low. each (suc k) d (omega arith)))

pub ascends_insert : (xs : List Name) (i : ℕ) (y : Name) → i ≤ length xs → ascends xs ≡ true → ((k : ℕ) (d : Name) → k < i → compare (text_at xs k d) (path_text y.path) ≡ Less)
    → ((k : ℕ) (d : Name) → i ≤ k → k < length xs → compare (text_at xs k d) (path_text y.path) ≡ Greater) → ascends (insert xs i y) ≡ true
ascends_insert xs zero y low asc before remainder = and_from (list_all (comes_before y) xs) (ascends xs) (all_from (comes_before y) xs (λ k d lt. ap is_lt (back (text_at xs k d) (path_text y.path) (remainder k d (omega arith) lt)))) asc
  where
    back : (a b : List ℕ) → compare a b ≡ Greater → compare b a ≡ Less
    back a b is = flip a b is
ascends_insert [] (suc i) y low asc before remainder = absurd (omega arith)
ascends_insert (x ∷ xs) (suc i) y low asc before remainder =
    let parts = and_parts (list_all (comes_before x) xs) (ascends xs) asc in
    and_from (list_all (comes_before x) (insert xs i y)) (ascends (insert xs i y))
    (all_insert (comes_before x) xs i y parts.0 (ap is_lt (before 0 x (omega arith))))
    (ascends_insert xs i y (omega arith) parts.1 (λ k d lt. before (suc k) d (omega arith)) (λ k d le lt. remainder (suc k) d (omega arith) (omega arith)))

pub room_here : (names : List Name) (p : Elements) (name : Name) (n : ℕ) → name_at names p ≡ Some name → HasRoom names p n → vec_len name.earlier + n ≤ vec_capacity name.earlier
room_here names p name n is room = subst (λ (o : Option Name). room_in o n) is room.room

pub no_room : (names xs : List Name) (p : Elements) (text : List ℕ) (i n : ℕ) → xs ≡ names → elements_of text ≡ p → IsPlace xs text i → HasRoom names p n → ⊥
no_room names xs p text i n same of place room =
    subst (λ (o : Option Name). room_in o n) (none_at names p text i (sym of) (subst (λ (l : List Name). IsPlace l text i) same place)) room.room

-- An edit of a name at its place: r is what was read, name is what is written.
module _ (names xs : List Name) (p q : Elements) (i : ℕ) (r name : Name) (found : IsAt xs q i) (same_list : xs ≡ names) (same_path : q ≡ p) (is : r ≡ get_or names i r) (path : name.path ≡ r.path) where
  place : IsAt names p i
  place = subst (λ (l : List Name). IsAt l p i) same_list (subst (λ (s : Elements). IsAt xs s i) same_path found)

  pub was_there : name_at names p ≡ Some r
  was_there = name_there names p i r place ∙ ap (λ (n : Name). Some n) (sym is)

  pub write_edit : Edited names (set names i name) p name
  write_edit = edit_set names p i name place (path ∙ ap (λ (n : Name). n.path) is ∙ place.here r)

  pub write_ascends : IsAscending names → IsAscending (set names i name)
  write_ascends asc = record { each = ascends_set names i name (λ d. place.here d ∙ sym (path ∙ ap (λ (n : Name). n.path) is ∙ place.here r)) ∙ asc.each }

  pub write_same : name.entry ≡ r.entry → name.earlier.items ≡ r.earlier.items → SameNames names (set names i name)
  write_same e l = edited_same write_edit (ap slot_of e ∙ sym (ap slot_in was_there)) (ap (λ (h : List (Option Entry)). map slot_of h) l ∙ sym (ap held_in was_there))

  pub write_keeps : (used : ℕ) → vec_len name.earlier ≤ vec_len r.earlier + used → vec_capacity r.earlier ≤ vec_capacity name.earlier → KeepsRoom used names (set names i name)
  write_keeps used len cap = edited_keeps write_edit used (λ n had. omega (arith, room_here names p r (n + used) was_there had))

  pub write_puts : (entry : Option Entry) → name.entry ≡ entry → name.earlier.items ≡ r.earlier.items ++ r.entry ∷ [] → PutsName p (slot_of entry) names (set names i name)
  write_puts entry e l = record {
    names = λ s. edited_names write_edit s ∙ ap (λ (x : Slot). set_at (names_of names) p x s) (ap slot_of e);
    earlier = λ s. edited_earlier write_edit s ∙ ap (λ (x : List Slot). set_at (earlier_of names) p x s) (ap (λ (h : List (Option Entry)). map slot_of h) l ∙ map_push slot_of r.earlier.items r.entry ∙ sym (ap (λ (o : Option Name). held_in o ++ slot_in o ∷ []) was_there));
  }

  pub write_may_put : (entry : Option Entry) → name.entry ≡ r.entry → name.earlier.items ≡ r.earlier.items ++ entry ∷ [] → MayPutName p (slot_of entry) names (set names i name)
  write_may_put entry e l = record {
    names = λ s. edited_names write_edit s ∙ set_nothing (names_of names) p (slot_of name.entry) s (ap slot_of e ∙ sym (ap slot_in was_there));
    earlier = λ s. edited_earlier write_edit s ∙ ap (λ (x : List Slot). set_at (earlier_of names) p x s) (ap (λ (h : List (Option Entry)). map slot_of h) l ∙ map_push slot_of r.earlier.items entry ∙ sym (ap (λ (o : Option Name). held_in o ++ slot_of entry ∷ []) was_there));
  }

-- A name that comes in at its place.
module _ (names xs : List Name) (p : Elements) (text : List ℕ) (i : ℕ) (name : Name) (found : IsPlace xs text i) (same_list : xs ≡ names) (of : elements_of text ≡ p) (path : name.path ≡ p) where
  gap : IsPlace names text i
  gap = subst (λ (l : List Name). IsPlace l text i) same_list found

  pub add_edit : Edited names (insert names i name) p name
  add_edit = edit_insert names text p i name (sym of) gap path

  pub was_missing : name_at names p ≡ None
  was_missing = none_at names p text i (sym of) gap

  pub add_ascends : IsAscending names → IsAscending (insert names i name)
  add_ascends asc =
      let text_is : text ≡ path_text name.path = sym (ap path_text (path ∙ sym of) ∙ text_back text) in
      record { each = ascends_insert names i name gap.low asc.each (λ k d lt. subst (λ (t : List ℕ). compare (text_at names k d) t ≡ Less) text_is (gap.before k d lt)) (λ k d le lt. subst (λ (t : List ℕ). compare (text_at names k d) t ≡ Greater) text_is (gap.remainder k d le lt)) }

  pub add_same : slot_of name.entry ≡ absent → name.earlier.items ≡ [] → SameNames names (insert names i name)
  add_same e l = edited_same add_edit (e ∙ sym (ap slot_in was_missing)) (ap (λ (h : List (Option Entry)). map slot_of h) l ∙ sym (ap held_in was_missing))

  pub add_keeps : (used : ℕ) → KeepsRoom used names (insert names i name)
  add_keeps used = edited_keeps add_edit used (λ n had. absurd (subst (λ (o : Option Name). room_in o (n + used)) was_missing had.room))
