-- The files and links below a folder, level by level.
use Rattle.std.proofs.Common.{◌≡◌, ◌≢◌, ◌⊎◌, inl, inr, ℕ, zero, suc, ◌+◌, ◌<◌, ◌≤◌, List, [], ◌∷◌, ◌++◌, length, take, map, get_or, refl, sym, ◌∙◌, ap, subst, Contains, arith}
use Rattle.std.specs.Prelude.{◌↔◌}
use Rattle.std.proofs.lemmas.Bool.{cases_lt}
use Rattle.std.proofs.lemmas.List.{take_more}
use Rattle.std.proofs.lemmas.List.Elements.{Contains-append_left, Contains-append_right, Contains-append_cases, Contains-push, Contains-push_cases}
use Rattle.fp_base.proofs.Lists.{in_none, in_first, in_cases, in_map, from_map}
use Rattle.fp_host.specs.Paths.{Elements, absent, dir, IsAbove}
use Rattle.fp_host.specs.View.{View, IsTree}
use Rattle.fp_host.specs.Calls.{IsLeaf}
use Rattle.fp_host.proofs.Separate.{absent_cases}
use Rattle.fp_host.proofs.Slots.{leaf_there}
use Rattle.fp_small.specs.Naming.{ListsIn}
use Rattle.fp_small.specs.Clear.{IsWithin, Reaches}
use Rattle.fp_small.proofs.Emptying.{emptied_no_dir}
use Rattle.ost_model.specs.Stores.{objects_folder}
use Rattle.ost_store.specs.Names.{CanList}
use Rattle.fp_small.specs.Walks.{IsBelow, IsLevel}
use Rattle.ost_store.specs.Walks.{Visits, VisitsAll, AreLeavesWithin, AreLeavesBelow}
use Rattle.ost_store.proofs.Lists.{in_one}

-- ---- a walk, level by level

-- the walk is at the level n: the files and links of those above are found
pub record IsAtLevel (n : ℕ) (folder : Elements) (v : View) (level found : List Elements) : Type 0 where
  pub here : (q : Elements) → Contains level q ↔ IsLevel n folder v q
  pub leaves : (q : Elements) → Contains found q ↔ (((k : ℕ) × (k < n) × IsLevel k folder v q) × IsLeaf (v.names q))

-- ---- one path

module _ {p : Elements} {v : View} (tree : IsTree v) (found next : List Elements) where
  no_child : (v.names p ≡ dir → ⊥) → (q : Elements) → IsBelow (p ∷ []) v q → ⊥
  no_child off [] is = is
  no_child off (x ∷ up) is = elim (tree.above x up) [ inl none ↦ is.1 none | inr there ↦ off (ap v.names (sym (in_one p up is.0)) ∙ there) ]

  none_next : (v.names p ≡ dir → ⊥) → (q : Elements) → Contains next q ⊎ IsBelow (p ∷ []) v q → Contains next q
  none_next off q (inl had) = had
  none_next off q (inr child) = absurd (no_child off q child)

  none_found : (IsLeaf (v.names p) → ⊥) → (q : Elements) → Contains found q ⊎ ((q ≡ p) × IsLeaf (v.names q)) → Contains found q
  none_found off q (inl had) = had
  none_found off q (inr is) = absurd (off (subst (λ (r : Elements). IsLeaf (v.names r)) is.0 is.1))

  pub visited_absent : v.names p ≡ absent → Visits p v found next found next
  visited_absent none = record {
    leaves = λ q. (λ has. inl has, none_found (λ leaf. subst IsLeaf none leaf) q);
    below = λ q. (λ has. inl has, none_next (λ there. cc (none, there)) q);
  }

  pub visited_leaf : {found' : List Elements} → IsLeaf (v.names p) → found' ≡ found ++ p ∷ [] → Visits p v found next found' next
  visited_leaf {found' = found'} leaf is = subst (λ (l : List Elements). Visits p v found next l next) (sym is) (record {
    leaves = λ q. (
      λ has. elim (Contains-push_cases found p q has) [ inl earlier ↦ inl earlier | inr same ↦ inr (sym same, subst (λ (r : Elements). IsLeaf (v.names r)) same leaf) ],
      λ either. elim either [ inl earlier ↦ Contains-append_left found (p ∷ []) q earlier | inr here ↦ subst (Contains (found ++ p ∷ [])) (sym here.0) (Contains-push found p) ],
    );
    below = λ q. (λ has. inl has, none_next (λ there. subst IsLeaf there leaf) q);
  })

  module _ (names : List (List ℕ)) (lists : ListsIn p v names) where
    children : (q : Elements) → Contains (next ++ map (λ x. x ∷ p) names) q → Contains next q ⊎ IsBelow (p ∷ []) v q
    children q has = elim (Contains-append_cases next (map (λ x. x ∷ p) names) q has) [
      | inl earlier ↦ inl earlier
      | inr new ↦ let one = from_map (λ x. x ∷ p) names q new in inr (subst (IsBelow (p ∷ []) v) (sym one.2) (in_first p [], (lists.each one.0).0 one.1))
    ]

    all_children : (q : Elements) → Contains next q ⊎ IsBelow (p ∷ []) v q → Contains (next ++ map (λ x. x ∷ p) names) q
    all_children q (inl earlier) = Contains-append_left next (map (λ x. x ∷ p) names) q earlier
    all_children [] (inr child) = absurd child
    all_children (x ∷ up) (inr child) =
        let up_is = in_one p up child.0 in
        let has = (lists.each x).1 (λ none. child.1 (ap (λ (l : Elements). v.names (x ∷ l)) up_is ∙ none)) in
        Contains-append_right next (map (λ y. y ∷ p) names) (x ∷ up) (subst (λ (l : Elements). Contains (map (λ y. y ∷ p) names) (x ∷ l)) (sym up_is) (in_map (λ y. y ∷ p) names x has))

    pub visited_dir : {next' : List Elements} → v.names p ≡ dir → next' ≡ next ++ map (λ x. x ∷ p) names → Visits p v found next found next'
    visited_dir there is = subst (λ (l : List Elements). Visits p v found next found l) (sym is) (record {
      leaves = λ q. (λ has. inl has, none_found (λ leaf. subst IsLeaf there leaf) q);
      below = λ q. (children q, all_children q);
    })

-- ---- one path more

pub none_visited : (v : View) (found next : List Elements) → next ≡ [] → VisitsAll [] v found found next
none_visited v found next none = record {
  leaves = λ q. (λ has. inl has, λ either. elim either [ inl had ↦ had | inr is ↦ absurd (in_none q is.0) ]);
  below = λ q. (λ has. absurd (in_none q (subst (λ (l : List Elements). Contains l q) none has)), λ is. absurd (no_folder q is));
}
  where
    no_folder : (q : Elements) → IsBelow [] v q → ⊥
    no_folder [] is = is
    no_folder (x ∷ up) is = in_none up is.0

module _ {v : View} (paths : List Elements) (p : Elements) (found found' found'' next next' : List Elements) (so_far : VisitsAll paths v found found' next) (one : Visits p v found' next found'' next') where
  more_below : (q : Elements) → IsBelow paths v q ⊎ IsBelow (p ∷ []) v q → IsBelow (paths ++ p ∷ []) v q
  more_below [] (inl is) = is
  more_below [] (inr is) = is
  more_below (x ∷ up) (inl is) = (Contains-append_left paths (p ∷ []) up is.0, is.1)
  more_below (x ∷ up) (inr is) = (Contains-append_right paths (p ∷ []) up is.0, is.1)

  from_below : (q : Elements) → IsBelow (paths ++ p ∷ []) v q → IsBelow paths v q ⊎ IsBelow (p ∷ []) v q
  from_below [] is = inl is
  from_below (x ∷ up) is = elim (Contains-push_cases paths p up is.0) [ inl earlier ↦ inl (earlier, is.1) | inr same ↦ inr (subst (Contains (p ∷ [])) same (in_first p []), is.1) ]

  one_visited : VisitsAll (paths ++ p ∷ []) v found found'' next'
  one_visited = record {
    leaves = λ q. (
      λ has. elim ((one.leaves q).0 has) [
        | inl earlier ↦ elim ((so_far.leaves q).0 earlier) [ inl had ↦ inl had | inr is ↦ inr (Contains-append_left paths (p ∷ []) q is.0, is.1) ]
        | inr here ↦ inr (subst (Contains (paths ++ p ∷ [])) (sym here.0) (Contains-push paths p), here.1)
      ],
      λ either. elim either [
        | inl had ↦ (one.leaves q).1 (inl ((so_far.leaves q).1 (inl had)))
        | inr is ↦ elim (Contains-push_cases paths p q is.0) [
          | inl earlier ↦ (one.leaves q).1 (inl ((so_far.leaves q).1 (inr (earlier, is.1))))
          | inr same ↦ (one.leaves q).1 (inr (sym same, is.1))
        ]
      ],
    );
    below = λ q. (
      λ has. more_below q (elim ((one.below q).0 has) [ inl earlier ↦ inl ((so_far.below q).0 earlier) | inr child ↦ inr child ]),
      λ is. (one.below q).1 (elim (from_below q is) [ inl earlier ↦ inl ((so_far.below q).1 earlier) | inr child ↦ inr child ]),
    );
  }

pub next_visited : {v : View} (paths : List Elements) (i : ℕ) (p : Elements) (found found' found'' next next' : List Elements) → i < length paths → p ≡ get_or paths i p
    → VisitsAll (take i paths) v found found' next → Visits p v found' next found'' next' → VisitsAll (take (i + 1) paths) v found found'' next'
next_visited {v = v} paths i p found found' found'' next next' low is so_far one =
    let took : take (i + 1) paths ≡ take i paths ++ p ∷ [] = take_more paths i p low ∙ ap (λ (f : Elements). take i paths ++ f ∷ []) (sym is) in
    subst (λ (l : List Elements). VisitsAll l v found found'' next') (sym took) (one_visited (take i paths) p found found' found'' next next' so_far one)

-- ---- one level more

pub first_level : (v : View) (folder : Elements) (level found : List Elements) → level ≡ folder ∷ [] → found ≡ [] → IsAtLevel 0 folder v level found
first_level v folder level found alone none = record {
  here = λ q. (
    λ has. elim (in_cases folder [] q (subst (λ (l : List Elements). Contains l q) alone has)) [ inl same ↦ same | inr no_more ↦ absurd (in_none q no_more) ],
    λ same. subst (λ (l : List Elements). Contains l q) (sym alone) (subst (Contains (folder ∷ [])) (sym same) (in_first folder [])),
  );
  leaves = λ q. (λ has. absurd (in_none q (subst (λ (l : List Elements). Contains l q) none has)), λ is. absurd (omega (arith, is.0.1)));
}

module _ {v : View} (n : ℕ) (folder : Elements) (level found found' next : List Elements) (so_far : IsAtLevel n folder v level found) (all : VisitsAll level v found found' next) where
  level_there : (q : Elements) → Contains next q → IsLevel (suc n) folder v q
  level_there [] has = (all.below []).0 has
  level_there (x ∷ up) has = let is = (all.below (x ∷ up)).0 has in ((so_far.here up).0 is.0, is.1)

  level_all : (q : Elements) → IsLevel (suc n) folder v q → Contains next q
  level_all [] is = absurd is
  level_all (x ∷ up) is = (all.below (x ∷ up)).1 ((so_far.here up).1 is.0, is.1)

  next_level_suc : IsAtLevel (suc n) folder v next found'
  next_level_suc = record {
    here = λ q. (level_there q, level_all q);
    leaves = λ q. (
      λ has. elim ((all.leaves q).0 has) [
        | inl earlier ↦ let is = (so_far.leaves q).0 earlier in ((is.0.0, omega (arith, is.0.1), is.0.2), is.1)
        | inr new ↦ ((n, omega arith, (so_far.here q).0 new.0), new.1)
      ],
      λ is. (all.leaves q).1 (elim (cases_lt is.0.0 n) [
        | inl before ↦ inl ((so_far.leaves q).1 ((is.0.0, before, is.0.2), is.1))
        | inr after ↦
            let same : is.0.0 ≡ n = omega (arith, after, is.0.1) in
            inr ((so_far.here q).1 (subst (λ k. IsLevel k folder v q) same is.0.2), is.1)
      ]),
    );
  }

pub next_level : {v : View} (n : ℕ) (folder : Elements) (level found found' next : List Elements) → IsAtLevel n folder v level found → VisitsAll level v found found' next → IsAtLevel (n + 1) folder v next found'
next_level {v = v} n folder level found found' next so_far all =
    let one : suc n ≡ n + 1 = omega arith in
    subst (λ k. IsAtLevel k folder v next found') one (next_level_suc n folder level found found' next so_far all)

-- ---- the last level

within_level : (k : ℕ) (folder : Elements) (v : View) (q : Elements) → IsLevel k folder v q → IsWithin folder q
within_level zero folder v q is = inl is
within_level (suc k) folder v [] is = absurd is
within_level (suc k) folder v (x ∷ up) is = inr (elim (within_level k folder v up is.0) [ inl same ↦ inl (sym same) | inr above ↦ inr above ])

length_level : (k : ℕ) (folder : Elements) (v : View) (q : Elements) → IsLevel k folder v q → length q ≡ length folder + k
length_level zero folder v q is = omega (arith, ap (λ (l : Elements). length l) is)
length_level (suc k) folder v [] is = absurd is
length_level (suc k) folder v (x ∷ up) is = omega (arith, length_level k folder v up is.0)

-- in a tree what is there below the folder is at some level
level_of : {v : View} → IsTree v → (folder q : Elements) → IsAbove folder q → v.names q ≢ absent → (k : ℕ) × IsLevel k folder v q
level_of tree folder [] above some = absurd above
level_of tree folder (x ∷ up) (inl is) some = (1, (sym is, some))
level_of {v = v} tree folder (x ∷ up) (inr higher) some =
    let up_there : v.names up ≢ absent = λ none. elim (tree.above x up) [ inl gone ↦ some gone | inr there ↦ cc (there, none) ] in
    let one = level_of tree folder up higher up_there in
    (suc one.0, (one.1, some))

-- what is deeper has something at each level above
level_above : (k n : ℕ) (folder : Elements) (v : View) (q : Elements) → n ≤ k → IsLevel k folder v q → (r : Elements) × IsLevel n folder v r
level_above zero n folder v q deep is = let none : 0 ≡ n = omega arith in (q, subst (λ j. IsLevel j folder v q) none is)
level_above (suc k) n folder v [] deep is = absurd is
level_above (suc k) n folder v (x ∷ up) deep is = elim (cases_lt k n) [
  | inl last ↦ let same : suc k ≡ n = omega (arith, last, deep) in (x ∷ up, subst (λ j. IsLevel j folder v (x ∷ up)) same is)
  | inr more ↦ level_above k n folder v up more is.0
]

-- where nothing is left, all is found
pub all_found : {v : View} (n : ℕ) (folder : Elements) (level found : List Elements) → IsTree v → IsAtLevel n folder v level found → level ≡ [] → AreLeavesWithin folder v found
all_found {v = v} n folder level found tree at none = record {
  each = λ q. (
    λ has. let is = (at.leaves q).0 has in (within_level is.0.0 folder v q is.0.2, is.1),
    λ is. (at.leaves q).1 (low q (level_within q is.0 is.1), is.1),
  );
}
  where
    level_within : (q : Elements) → IsWithin folder q → IsLeaf (v.names q) → (k : ℕ) × IsLevel k folder v q
    level_within q (inl same) leaf = (0, same)
    level_within q (inr above) leaf = level_of tree folder q above (leaf_there (v.names q) leaf)

    empty : (r : Elements) → IsLevel n folder v r → ⊥
    empty r is = in_none r (subst (λ (l : List Elements). Contains l r) none ((at.here r).1 is))

    low : (q : Elements) → (k : ℕ) × IsLevel k folder v q → (k : ℕ) × (k < n) × IsLevel k folder v q
    low q one = elim (cases_lt one.0 n) [
      | inl below ↦ (one.0, below, one.1)
      | inr deep ↦ let r = level_above one.0 n folder v q deep one.1 in absurd (empty r.0 r.1)
    ]

-- where nothing is left, nothing is deeper
pub all_reached : {v : View} (n : ℕ) (folder : Elements) (level found : List Elements) → IsTree v → IsAtLevel (n + 1) folder v level found → level ≡ [] → Reaches folder n v
all_reached {v = v} n folder level found tree at none = record {
  far = λ q above. elim (absent_cases (v.names q)) [ inl gone ↦ inl gone | inr some ↦ inr (near q (level_of tree folder q above some)) ];
}
  where
    empty : (r : Elements) → IsLevel (n + 1) folder v r → ⊥
    empty r is = in_none r (subst (λ (l : List Elements). Contains l r) none ((at.here r).1 is))

    near : (q : Elements) → (k : ℕ) × IsLevel k folder v q → length q ≤ length folder + n
    near q one = elim (cases_lt one.0 (n + 1)) [
      | inl below ↦ omega (arith, below, length_level one.0 folder v q one.1)
      | inr deep ↦ let r = level_above one.0 (n + 1) folder v q deep one.1 in absurd (empty r.0 r.1)
    ]

-- below what is no folder there is nothing
pub none_reached : {v : View} (n : ℕ) (folder : Elements) → IsTree v → (v.names folder ≡ dir → ⊥) → Reaches folder n v
none_reached n folder tree off = record { far = λ q above. inl ((emptied_no_dir {p = folder} tree off).gone q above) }

-- within reach nothing is left
pub none_left : {v : View} (n : ℕ) (folder : Elements) (level found : List Elements) → Reaches folder n v → IsAtLevel (n + 1) folder v level found → level ≡ []
none_left n folder [] found reaches at = refl
none_left {v = v} n folder (q ∷ level) found reaches at = absurd (too_deep q ((at.here q).0 (in_first q level)))
  where
    too_deep : (r : Elements) → IsLevel (n + 1) folder v r → ⊥
    too_deep r is =
        let one : n + 1 ≡ suc n = omega arith in
        let long = length_level (n + 1) folder v r is in
        by_reach r (subst (λ k. IsLevel k folder v r) one is) long
      where
        by_reach : (r : Elements) → IsLevel (suc n) folder v r → length r ≡ length folder + (n + 1) → ⊥
        by_reach [] is long = is
        by_reach (x ∷ up) is long = elim (within_level (suc n) folder v (x ∷ up) is) [
          | inl same ↦ omega (arith, long, ap (λ (l : Elements). length l) same)
          | inr above ↦ elim (reaches.far (x ∷ up) above) [ inl none ↦ is.1 none | inr near ↦ omega (arith, near, long) ]
        ]

-- ---- below a folder

pub below_folder : {v : View} (folder : Elements) (found : List Elements) → v.names folder ≡ dir → AreLeavesWithin folder v found → AreLeavesBelow folder v found
below_folder {v = v} folder found there within = record {
  each = λ q. (
    λ has. let is = (within.each q).0 has in (elim is.0 [ inl same ↦ absurd (subst IsLeaf (ap v.names same ∙ there) is.1) | inr above ↦ above ], is.1),
    λ is. (within.each q).1 (inr is.0, is.1),
  );
}

pub below_none : {v : View} (folder : Elements) (found : List Elements) → IsTree v → (v.names folder ≡ dir → ⊥) → found ≡ [] → AreLeavesBelow folder v found
below_none {v = v} folder found tree off none = record {
  each = λ q. (
    λ has. absurd (in_none q (subst (λ (l : List Elements). Contains l q) none has)),
    λ is. absurd (nothing q is.0 (leaf_there (v.names q) is.1)),
  );
}
  where
    nothing : (q : Elements) → IsAbove folder q → v.names q ≢ absent → ⊥
    nothing q above some = some ((emptied_no_dir {p = folder} tree off).gone q above)

-- no path of more than 128 elements is more than 127 folders below `objects`
pub within_reach : {v : View} (root folder : Elements) → folder ≡ objects_folder root → CanList root v → Reaches folder 127 v
within_reach root folder is can = record {
  far = λ q above. elim (can.short q (subst (λ (p : Elements). IsAbove p q) is above)) [
    | inl none ↦ inl none
    | inr short ↦ inr (omega (arith, short, ap (λ (l : Elements). length l) is))
  ];
}
