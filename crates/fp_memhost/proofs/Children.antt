-- The names that a folder lists.
use Rattle.std.proofs.Common.{◌≡◌, ◌≢◌, ◌⊎◌, inl, inr, ℕ, zero, suc, ◌<◌, List, [], ◌∷◌, ◌++◌, length, get_or, true, Option, Some, None, refl, sym, ◌∙◌, ap, subst, arith, append_assoc, Contains}
use Rattle.std.specs.Prelude.{is_some}
use Rattle.std.specs.List.{list_all, join_with_byte}
use Rattle.std.specs.Ordering.{is_lt}
use Rattle.std.proofs.lemmas.Bool.{cases_Bool, cond-true, cond-false, and_parts, and_from, false≢true}
use Rattle.std.proofs.lemmas.Cmp.{nat_cmp_total, tied_itself}
use Rattle.std.specs.Ordering.{ordering_then}
use Rattle.std.specs.declared.cmp.Ordering.{Ordering}
use Rattle.fp_host.specs.Paths.{Elements, absent, path_text, turned, turned_onto}
use Rattle.fp_host.specs.Reads.{comes_first, is_ascending}
use Rattle.fp_host.proofs.PathTexts.{turned_onto-append}
use Rattle.fp_host.proofs.Separate.{path_decides}
use Rattle.fp_memhost.specs.declared.names.Name.{Name}
use Rattle.fp_memhost.specs.Names.{comes_before, ascends, names_of, name_at, is_at, slot_in, slot_of}
use Rattle.fp_memhost.specs.Folders.{child_in, is_child, last_of, children_of}
use Rattle.fp_memhost.proofs.Ordered.{compare}
use Rattle.fp_memhost.proofs.Judging.{entry_present, not_first}

-- two texts with one beginning are compared by the rest
same_front : (a b c : List ℕ) → compare (a ++ b) (a ++ c) ≡ compare b c
same_front [] b c = refl
same_front (x ∷ a) b c = ap (λ (o : Ordering). ordering_then o (compare (a ++ b) (a ++ c))) (tied_itself nat_cmp_total x) ∙ same_front a b c

join_last : (ys : List (List ℕ)) (y x : List ℕ) → join_with_byte 47 ((y ∷ ys) ++ x ∷ []) ≡ (join_with_byte 47 (y ∷ ys) ++ 47 ∷ []) ++ x
join_last [] y x = sym (append_assoc y (47 ∷ []) x)
join_last (z ∷ ys) y x = ap (λ (l : List ℕ). y ++ 47 ∷ l) (join_last ys z x) ∙ sym (append_assoc y (47 ∷ (join_with_byte 47 (z ∷ ys) ++ 47 ∷ [])) x) ∙ ap (λ (l : List ℕ). l ++ x) (sym (append_assoc y (47 ∷ join_with_byte 47 (z ∷ ys)) (47 ∷ [])))

some_turned : (up : Elements) (y : List ℕ) → (z : List ℕ) × (zs : List (List ℕ)) × (turned (y ∷ up) ≡ z ∷ zs)
some_turned up y = by_onto (turned up) (turned_onto-append up (y ∷ []))
  where
    by_onto : (l : List (List ℕ)) → turned_onto up (y ∷ []) ≡ l ++ y ∷ [] → (z : List ℕ) × (zs : List (List ℕ)) × (turned (y ∷ up) ≡ z ∷ zs)
    by_onto [] is = (y, [], is)
    by_onto (z ∷ zs) is = (z, zs ++ y ∷ [], is)

-- what stands before the last element in a path's text
pub front_of : (up : Elements) → (front : List ℕ) × ((x : List ℕ) → path_text (x ∷ up) ≡ front ++ x)
front_of [] = ([], λ x. refl)
front_of (y ∷ up) =
    let t = some_turned up y in
    (join_with_byte 47 (t.0 ∷ t.1) ++ 47 ∷ [], λ x. ap (join_with_byte 47) (turned_onto-append (y ∷ up) (x ∷ []) ∙ ap (λ (l : List (List ℕ)). l ++ x ∷ []) t.2) ∙ join_last t.1 t.0 x)

pub compare_children : (up : Elements) (x y : List ℕ) → compare (path_text (x ∷ up)) (path_text (y ∷ up)) ≡ compare x y
compare_children up x y = let f = front_of up in (λ i. compare (f.1 x i) (f.1 y i)) ∙ same_front f.0 x y

-- the path of what is in a folder
child_path : (p q : Elements) → child_in p q ≡ true → q ≡ last_of q ∷ p
child_path p [] t = absurd (false≢true t)
child_path p (x ∷ up) t = ap (λ (r : Elements). x ∷ r) ((path_decides up p).0 t)

path_child : (p : Elements) (x : List ℕ) (q : Elements) → q ≡ x ∷ p → (child_in p q ≡ true) × (last_of q ≡ x)
path_child p x q is = (ap (child_in p) is ∙ (path_decides p p).1 refl, ap last_of is)

-- the names ascend
comes_next : (p : Elements) (n : Name) (names : List Name) → n.path ≡ last_of n.path ∷ p → list_all (comes_before n) names ≡ true → comes_first (last_of n.path) (children_of names p) ≡ true
comes_next p n [] is all = refl
comes_next p n (m ∷ names) is all =
    let parts = and_parts (comes_before n m) (list_all (comes_before n) names) all in
    elim (cases_Bool (is_child p m)) [
      | inl t ↦
          let path = child_path p m.path (and_parts (is_some m.entry) (child_in p m.path) t).1 in
          ap (comes_first (last_of n.path)) (cond-true (is_child p m) (last_of m.path ∷ children_of names p) (children_of names p) t)
          ∙ ap is_lt (sym (compare_children p (last_of n.path) (last_of m.path)) ∙ (λ i. compare (path_text (sym is i)) (path_text (sym path i)))) ∙ parts.0
      | inr f ↦ ap (comes_first (last_of n.path)) (cond-false (is_child p m) (last_of m.path ∷ children_of names p) (children_of names p) f) ∙ comes_next p n names is parts.1
    ]

pub children_ascend : (p : Elements) (names : List Name) → ascends names ≡ true → is_ascending (children_of names p) ≡ true
children_ascend p [] asc = refl
children_ascend p (n ∷ names) asc =
    let parts = and_parts (list_all (comes_before n) names) (ascends names) asc in
    elim (cases_Bool (is_child p n)) [
      | inl t ↦
          ap is_ascending (cond-true (is_child p n) (last_of n.path ∷ children_of names p) (children_of names p) t)
          ∙ and_from (comes_first (last_of n.path) (children_of names p)) (is_ascending (children_of names p)) (comes_next p n names (child_path p n.path (and_parts (is_some n.entry) (child_in p n.path) t).1) parts.0) (children_ascend p names parts.1)
      | inr f ↦ ap is_ascending (cond-false (is_child p n) (last_of n.path ∷ children_of names p) (children_of names p) f) ∙ children_ascend p names parts.1
    ]

-- and are those that stand in the folder
in_rest : {x y : List ℕ} (l : List (List ℕ)) → Contains l x → Contains (y ∷ l) x
in_rest l c = (suc c.0, omega (arith, c.1), c.2)

in_either : {x y : List ℕ} (l : List (List ℕ)) → Contains (y ∷ l) x → (y ≡ x) ⊎ Contains l x
in_either {x = x} {y = y} l c = by_place c.0 c.1 c.2
  where
    by_place : (k : ℕ) → k < length (y ∷ l) → get_or (y ∷ l) k x ≡ x → (y ≡ x) ⊎ Contains l x
    by_place zero low is = inl is
    by_place (suc k) low is = inr (k, omega arith, is)

none_listed : (x : List ℕ) → Contains [] x → ⊥
none_listed x c = omega (arith, c.1)

pub listed_stands : (p : Elements) (x : List ℕ) (names : List Name) → ascends names ≡ true → Contains (children_of names p) x → names_of names (x ∷ p) ≢ absent
listed_stands p x [] asc c = absurd (none_listed x c)
listed_stands p x (n ∷ names) asc c =
    let parts = and_parts (list_all (comes_before n) names) (ascends names) asc in
    elim (cases_Bool (is_child p n)) [
      | inl t ↦ elim (in_either (children_of names p) (subst (λ (l : List (List ℕ)). Contains l x) (cond-true (is_child p n) (last_of n.path ∷ children_of names p) (children_of names p) t) c)) [
        | inl here ↦
            let both = and_parts (is_some n.entry) (child_in p n.path) t in
            let path : x ∷ p ≡ n.path = ap (λ (y : List ℕ). y ∷ p) (sym here) ∙ sym (child_path p n.path both.1) in
            (λ gone. entry_present n.entry both.0 (sym (ap slot_in (cond-true (is_at (x ∷ p) n) (Some n) (name_at names (x ∷ p)) ((path_decides (x ∷ p) n.path).1 path))) ∙ gone))
        | inr later ↦ later_stands parts.0 (listed_stands p x names parts.1 later)
      ]
      | inr f ↦ later_stands parts.0 (listed_stands p x names parts.1 (subst (λ (l : List (List ℕ)). Contains l x) (cond-false (is_child p n) (last_of n.path ∷ children_of names p) (children_of names p) f) c))
    ]
  where
    later_stands : list_all (comes_before n) names ≡ true → names_of names (x ∷ p) ≢ absent → names_of (n ∷ names) (x ∷ p) ≢ absent
    later_stands all there gone = there (sym (not_first n names (x ∷ p) there all) ∙ gone)

pub stands_listed : (p : Elements) (x : List ℕ) (names : List Name) → names_of names (x ∷ p) ≢ absent → Contains (children_of names p) x
stands_listed p x [] there = absurd (there refl)
stands_listed p x (n ∷ names) there = elim (cases_Bool (is_at (x ∷ p) n)) [
  | inl here ↦
      let child = path_child p x n.path (sym ((path_decides (x ∷ p) n.path).0 here)) in
      let some = entry_there n.entry (λ gone. there (ap slot_in (cond-true (is_at (x ∷ p) n) (Some n) (name_at names (x ∷ p)) here) ∙ gone)) in
      subst (λ (l : List (List ℕ)). Contains l x) (sym (cond-true (is_child p n) (last_of n.path ∷ children_of names p) (children_of names p) (and_from (is_some n.entry) (child_in p n.path) some child.0))) (0, omega arith, child.1)
  | inr off ↦
      let rest = stands_listed p x names (λ gone. there (ap slot_in (cond-false (is_at (x ∷ p) n) (Some n) (name_at names (x ∷ p)) off) ∙ gone)) in
      elim (cases_Bool (is_child p n)) [
        | inl t ↦ subst (λ (l : List (List ℕ)). Contains l x) (sym (cond-true (is_child p n) (last_of n.path ∷ children_of names p) (children_of names p) t)) (in_rest (children_of names p) rest)
        | inr f ↦ subst (λ (l : List (List ℕ)). Contains l x) (sym (cond-false (is_child p n) (last_of n.path ∷ children_of names p) (children_of names p) f)) rest
      ]
]
  where
    entry_there : (e : Option _) → slot_of e ≢ absent → is_some e ≡ true
    entry_there None there = absurd (there refl)
    entry_there (Some e) there = refl
