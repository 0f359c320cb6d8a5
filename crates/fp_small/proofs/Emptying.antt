-- Names that are taken away, with all that is below them.
use Rattle.std.proofs.Common.{◌≡◌, ◌≢◌, ◌⊎◌, inl, inr, ℕ, ◌+◌, ◌-◌, ◌<◌, ◌≤◌, List, [], ◌∷◌, ◌++◌, length, take, get_or, Ok, refl, sym, ◌∙◌, ap, subst, Contains, arith, Option}
use Rattle.std.proofs.lemmas.List.{take_more}
use Rattle.std.proofs.lemmas.List.Elements.{Contains-append_left, Contains-push, Contains-push_cases, Contains-get_or}
use Rattle.fp_host.specs.Paths.{Elements, Slot, absent, dir, file, link, IsAbove}
use Rattle.fp_host.specs.View.{View, IsTree}
use Rattle.fp_host.specs.Calls.{unlinks, removes_dir, Step, Can, IsLeaf, IsNoDir}
use Rattle.fp_host.specs.Reads.{StatOf, IsStat}
use Rattle.fp_host.specs.declared.host.Stat.{Stat}
use Rattle.fp_host.specs.declared.host.Stat.TheVariants.{Absent, Dir}
use Rattle.fp_host.specs.Moments.{Moments}
use Rattle.fp_host.specs.Frame.{NoPath, Frame, AtEnd}
use Rattle.fp_host.proofs.Separate.{set_same, absent_cases}
use Rattle.fp_host.proofs.Above.{below_child, above_longer, not_above}
use Rattle.fp_small.specs.Naming.{ListsIn}
use Rattle.fp_small.specs.Clear.{IsWithin, AbsentWithin, AbsentBelow, IsCleared, IsEmptied, Reaches, ReachesDown, CanClear, CanEmpty, AbsentAt, GoneAt}
use Rattle.fp_small.proofs.Within.{child_above}

pub within_child : (x : List ℕ) (p q : Elements) → IsWithin (x ∷ p) q → IsAbove p q
within_child x p q (inl is) = subst (IsAbove p) (sym is) (inl refl)
within_child x p q (inr above) = below_child x p q above

-- where no child is there, nothing is below
module _ {p : Elements} {w : View} (tree : IsTree w) (none : (x : List ℕ) → w.names (x ∷ p) ≡ absent) where
  nothing_below : (q : Elements) → IsAbove p q → w.names q ≡ absent
  nothing_below [] above = absurd above
  nothing_below (x ∷ up) (inl is) = subst (λ (r : Elements). w.names (x ∷ r) ≡ absent) is (none x)
  nothing_below (x ∷ up) (inr higher) = elim (tree.above x up) [ inl gone ↦ gone | inr there ↦ absurd (cc (nothing_below up higher, there)) ]

-- nothing is below what is no folder
pub emptied_no_dir : {p : Elements} {w : View} → IsTree w → (w.names p ≡ dir → ⊥) → IsEmptied p w
emptied_no_dir {p = p} tree no_dir = record { gone = nothing_below tree (λ x. elim (tree.above x p) [ inl gone ↦ gone | inr there ↦ absurd (no_dir there) ]) }

pub cleared_absent : {p : Elements} {w : View} → IsTree w → w.names p ≡ absent → IsCleared p w
cleared_absent {p = p} {w = w} tree none = record {
  gone = λ q within. elim within [ inl is ↦ ap w.names is ∙ none | inr above ↦ (emptied_no_dir {p = p} tree (λ there. cc (none, there))).gone q above ];
}

pub unlinked : {p : Elements} {v w : View} → Step (unlinks p) (Ok tt) v w → w.names p ≡ absent
unlinked {p = p} {v = v} step = ap (λ (x : View). x.names p) step.how.1 ∙ set_same v.names p absent p refl

pub dir_removed : {p : Elements} {v w : View} → Step (removes_dir p) (Ok tt) v w → w.names p ≡ absent
dir_removed {p = p} {v = v} step = ap (λ (x : View). x.names p) step.how.1 ∙ set_same v.names p absent p refl

-- what is there and no folder may be unlinked
pub leaf_there : (e : Slot) → IsNoDir e → (e ≡ absent → ⊥) → IsLeaf e
leaf_there absent no_dir there = absurd (there refl)
leaf_there dir no_dir there = absurd no_dir
leaf_there (file id) no_dir there = tt
leaf_there (link text) no_dir there = tt

leaf_of : (v : View) (e : Slot) (s : Stat) → IsStat v e s → (s ≡ Absent → ⊥) → (s ≡ Dir → ⊥) → IsLeaf e
leaf_of v absent s is some no_dir = absurd (some is)
leaf_of v dir s is some no_dir = absurd (no_dir is)
leaf_of v (link text) s is some no_dir = tt
leaf_of v (file id) s is some no_dir = tt

pub stat_leaf : {p : Elements} {s : Stat} {v w : View} → StatOf p (Ok s) v w → (s ≡ Absent → ⊥) → (s ≡ Dir → ⊥) → IsLeaf (v.names p)
stat_leaf {p = p} {s = s} {v = v} stat some no_dir = leaf_of v (v.names p) s stat.tells.1 some no_dir

-- a folder in which nothing is left may be removed
pub can_remove : (p : Elements) (v w : View) → v.names p ≡ dir → p ≢ [] → ((q : Elements) → (w.names q ≡ v.names q) ⊎ AbsentBelow p q (w.names q)) → IsEmptied p w → Can (removes_dir p) w
can_remove p v w there no_root others emptied = (elim (others p) [ inl same ↦ same ∙ there | inr put ↦ absurd (not_above p put.0) ], no_root, emptied.gone)

-- ---- the names of a folder, one by one

-- nothing stands at these names in the folder
pub record AreCleared (p : Elements) (names : List (List ℕ)) (w : View) : Type 0 where
  pub each : (x : List ℕ) → Contains names x → w.names (x ∷ p) ≡ absent

pub none_yet : (p : Elements) (w : View) → AreCleared p [] w
none_yet p w = record { each = λ x has. absurd (omega (arith, has.1)) }

module _ (p : Elements) (names : List (List ℕ)) (i : ℕ) (x : List ℕ) (low : i < length names) (is : x ≡ get_or names i x) where
  name_in : Contains names x
  name_in = subst (Contains names) (sym is) (Contains-get_or names i x low)

  -- one name more
  pub one_cleared : {v w : View} → AreCleared p (take i names) v → ((q : Elements) → (w.names q ≡ v.names q) ⊎ AbsentWithin (x ∷ p) q (w.names q)) → IsCleared (x ∷ p) w → AreCleared p (take (i + 1) names) w
  one_cleared before others cleared = record {
    each = λ y has. elim (Contains-push_cases (take i names) (get_or names i x) y (subst (λ (l : List (List ℕ)). Contains l y) (take_more names i x low) has)) [
      | inl earlier ↦ elim (others (y ∷ p)) [ inl same ↦ same ∙ before.each y earlier | inr put ↦ put.1 ]
      | inr same ↦ cleared.gone (y ∷ p) (inl (ap (λ (z : List ℕ). z ∷ p) (sym same ∙ sym is)))
    ];
  }

  -- a name that is listed is within reach
  pub within_reach : {u : View} {depth : ℕ} → ListsIn p u names → Reaches p depth u → depth ≡ 0 → ⊥
  within_reach lists reaches none = elim (reaches.far (x ∷ p) (inl refl)) [ inl gone ↦ (lists.each x).0 name_in gone | inr near ↦ absurd (omega (arith, near, none)) ]

pub none_left : {p : Elements} {names : List (List ℕ)} {u w : View} → IsTree w → ListsIn p u names → AreCleared p names w → ((q : Elements) → (w.names q ≡ u.names q) ⊎ AbsentBelow p q (w.names q)) → IsEmptied p w
none_left {p = p} {w = w} tree lists cleared others = record {
  gone = nothing_below tree (λ x. elim (absent_cases (w.names (x ∷ p))) [
    | inl none ↦ none
    | inr some ↦ elim (others (x ∷ p)) [ inl same ↦ cleared.each x ((lists.each x).1 (λ none. some (same ∙ none))) | inr put ↦ put.1 ]
  ]);
}

-- a name in the folder has less below it
pub reaches_child : (p : Elements) (x : List ℕ) {u v : View} {depth : ℕ} → ((q : Elements) → (v.names q ≡ u.names q) ⊎ AbsentBelow p q (v.names q)) → Reaches p depth u → depth ≢ 0 → ReachesDown (x ∷ p) (depth - 1) v
reaches_child p x {depth = depth} others reaches some = record {
  no_root = λ root. cc root;
  below = record {
    far = λ q above. elim (others q) [
      | inl same ↦ elim (reaches.far q (below_child x p q above)) [ inl none ↦ inl (same ∙ none) | inr near ↦ inr (nearer depth (length q) p some near) ]
      | inr put ↦ inl put.1
    ];
  };
}
  where
    nearer : (depth long : ℕ) (p : Elements) → depth ≢ 0 → long ≤ length p + depth → long ≤ length (x ∷ p) + (depth - 1)
    nearer depth long p some near = omega (arith, some, near)

-- ---- how far down

-- nothing is below what is no folder
pub reaches_no_dir : (p : Elements) (depth : ℕ) {v : View} → IsTree v → (v.names p ≡ dir → ⊥) → Reaches p depth v
reaches_no_dir p depth tree no_dir = record { far = λ q above. inl ((emptied_no_dir {p = p} tree no_dir).gone q above) }

-- What was at these names in the folder, and below them, is within reach; what else is there is as
-- it was.
pub record AreReached (p : Elements) (depth : ℕ) (names : List (List ℕ)) (u w : View) : Type 0 where
  pub each : (x : List ℕ) → Contains names x → (q : Elements) → IsWithin (x ∷ p) q → (u.names q ≡ absent) ⊎ (length q ≤ length p + depth)
  pub others : (q : Elements) → (w.names q ≡ u.names q) ⊎ ((x : List ℕ) × Contains names x × IsWithin (x ∷ p) q)

pub none_reached : (p : Elements) (depth : ℕ) {u w : View} → w ≡ u → AreReached p depth [] u w
none_reached p depth same = record {
  each = λ x has q within. absurd (omega (arith, has.1));
  others = λ q. inl (ap (λ (v : View). v.names q) same);
}

near_child : (depth long low : ℕ) → depth ≢ 0 → long ≡ low + 1 → long ≤ low + depth
near_child depth long low some is = omega (arith, some, is)

near_below : (depth long low : ℕ) → depth ≢ 0 → long ≤ low + 1 + (depth - 1) → long ≤ low + depth
near_below depth long low some near = omega (arith, some, near)

-- one name more
module _ (p : Elements) (depth : ℕ) (names : List (List ℕ)) (i : ℕ) (x : List ℕ) (low : i < length names) (is : x ≡ get_or names i x) (some : depth ≢ 0) where
  more : (y : List ℕ) → Contains (take i names ++ get_or names i x ∷ []) y → Contains (take (i + 1) names) y
  more y has = subst (λ (l : List (List ℕ)). Contains l y) (sym (take_more names i x low)) has

  module _ {u v : View} (before : AreReached p depth (take i names) u v) (reach : Reaches (x ∷ p) (depth - 1) v) where
    here : (q : Elements) → IsWithin (x ∷ p) q → (u.names q ≡ absent) ⊎ (length q ≤ length p + depth)
    here q within = elim (before.others q) [
      | inr had ↦ before.each had.0 had.1 q had.2
      | inl same ↦ elim within [
        | inl at ↦ inr (near_child depth (length q) (length p) some (omega (arith, ap length at)))
        | inr above ↦ elim (reach.far q above) [
          | inl none ↦ inl (sym same ∙ none)
          | inr near ↦ inr (near_below depth (length q) (length p) some (omega (arith, near)))
        ]
      ]
    ]

    pub one_reached : {w : View} → ((q : Elements) → (w.names q ≡ v.names q) ⊎ AbsentWithin (x ∷ p) q (w.names q)) → AreReached p depth (take (i + 1) names) u w
    one_reached changed = record {
      each = λ y has q within. elim (Contains-push_cases (take i names) (get_or names i x) y (subst (λ (l : List (List ℕ)). Contains l y) (take_more names i x low) has)) [
        | inl earlier ↦ before.each y earlier q within
        | inr same ↦ here q (subst (λ (z : List ℕ). IsWithin (z ∷ p) q) (sym same ∙ sym is) within)
      ];
      others = λ q. elim (changed q) [
        | inl same ↦ elim (before.others q) [
          | inl first ↦ inl (same ∙ first)
          | inr had ↦ inr (had.0, more had.0 (Contains-append_left (take i names) (get_or names i x ∷ []) had.0 had.1), had.2)
        ]
        | inr put ↦ inr (x, more x (subst (Contains (take i names ++ get_or names i x ∷ [])) (sym is) (Contains-push (take i names) (get_or names i x))), put.0)
      ];
    }

-- no name of the folder is left
pub all_reached : {p : Elements} {depth : ℕ} {names : List (List ℕ)} {u w : View} → IsTree u → ListsIn p u names → AreReached p depth names u w → Reaches p depth u
all_reached {p = p} {u = u} tree lists reached = record {
  far = λ q above.
      let c = child_above p q above in
      elim (absent_cases (u.names (c.0 ∷ p))) [
        | inl none ↦ inl ((cleared_absent {p = c.0 ∷ p} tree none).gone q c.1)
        | inr there ↦ reached.each c.0 ((lists.each c.0).1 there) q c.1
      ];
}

-- ---- to 128 elements

pub reaches_most : {p : Elements} {v : View} → CanEmpty p v → Reaches p (128 - length p) v
reaches_most {p = p} can = record { far = λ q above. elim (can.short q above) [ inl none ↦ inl none | inr short ↦ inr (omega (arith, short)) ] }

pub reaches_down : {p : Elements} {v : View} → CanClear p v → ReachesDown p (128 - length p) v
reaches_down can = record { no_root = can.no_root; below = reaches_most can.below }

pub most_reached : {p : Elements} {v : View} → Reaches p (128 - length p) v → CanEmpty p v
most_reached {p = p} reach = record {
  short = λ q above. elim (reach.far q above) [
    | inl none ↦ inl none
    | inr near ↦ inr (omega (arith, near, above_longer p q above))
  ];
}

-- the same of the same path
pub frame_at : {p q : Elements} {a b : Option Moments} → p ≡ q → Frame (GoneAt p) (AbsentAt p) NoPath a b → Frame (GoneAt q) (AbsentAt q) NoPath a b
frame_at {a = a} {b = b} same frame = subst (λ (r : Elements). Frame (GoneAt r) (AbsentAt r) NoPath a b) same frame

pub ends_at : {p q : Elements} {a b : Option Moments} → p ≡ q → AtEnd (λ u w. w.names p ≡ absent) a b → AtEnd (λ u w. w.names q ≡ absent) a b
ends_at {a = a} {b = b} same done = subst (λ (r : Elements). AtEnd (λ u w. w.names r ≡ absent) a b) same done
