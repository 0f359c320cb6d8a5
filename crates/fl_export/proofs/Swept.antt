-- What is stale goes.
use Rattle.std.proofs.Common.{◌≡◌, ◌≢◌, ◌⊎◌, inl, inr, ℕ, ◌+◌, ◌-◌, ◌<◌, List, [], ◌∷◌, ◌++◌, length, take, get_or, refl, sym, ◌∙◌, ap, subst, Contains, arith}
use Rattle.std.proofs.lemmas.List.{take_more}
use Rattle.std.proofs.lemmas.List.Elements.{Contains-append_cases, Contains-append_left, Contains-push, Contains-get_or}
use Rattle.fp_base.proofs.Lists.{in_none}
use Rattle.fp_host.specs.Paths.{Elements, Slot, absent, dir, IsAbove}
use Rattle.fp_host.specs.View.{View, IsTree}
use Rattle.fp_host.specs.Calls.{IsLeaf}
use Rattle.fp_host.specs.Frame.{Keeps, NoPath, Only}
use Rattle.fp_host.proofs.Slots.{leaf_no_folder, leaf_there}
use Rattle.fp_small.specs.Clear.{GoneAt, AbsentAt, IsWithin, AbsentWithin, Reaches}
use Rattle.fp_small.specs.Naming.{ListsIn}
use Rattle.fp_small.proofs.Emptying.{within_child, reaches_child, emptied_no_dir}
use Rattle.fp_small.proofs.Sharing.{shares_refl, shares_on, shares_empty}
use Rattle.fp_small.proofs.Within.{child_above}
use Rattle.ost_store.proofs.Lists.{in_one}
use Rattle.fl_export.specs.Steps.{IsStale, Sweeps, SweepsAt, HasNoStaleIn}
use Rattle.fl_export.proofs.Alter.{alters_none, alters_on, alters_to, alters_kept}

pub took_cases : {A : Type 0} (items : List A) (i : ℕ) (x : A) → i < length items → x ≡ get_or items i x → (k : A) → Contains (take (i + 1) items) k → Contains (take i items) k ⊎ (k ≡ x)
took_cases items i x low is k has = elim (Contains-append_cases (take i items) (get_or items i x ∷ []) k (subst (λ l. Contains l k) (take_more items i x low) has)) [
  | inl before ↦ inl before
  | inr last ↦ inr (in_one (get_or items i x) k last ∙ sym is)
]

pub earlier_in : {A : Type 0} (items : List A) (i : ℕ) (x : A) → i < length items → (k : A) → Contains (take i items) k → Contains (take (i + 1) items) k
earlier_in items i x low k has = subst (λ l. Contains l k) (sym (take_more items i x low)) (Contains-append_left (take i items) (get_or items i x ∷ []) k has)

pub took_here : {A : Type 0} (items : List A) (i : ℕ) (x : A) → i < length items → x ≡ get_or items i x → Contains (take (i + 1) items) x
took_here items i x low is = subst (λ l. Contains l x) (sym (take_more items i x low)) (subst (λ y. Contains (take i items ++ y ∷ []) x) is (Contains-push (take i items) x))

-- ---- sweeps

pub sweeps_none : {region : Elements → Type 0} {places : List Elements} {v : View} → Sweeps region places v v
sweeps_none = record { alters = alters_none; idle = λ none. refl; empty = shares_refl }

pub sweeps_same : {region : Elements → Type 0} {places : List Elements} {v w : View} → w ≡ v → Sweeps region places v w
sweeps_same {region = region} {places = places} {v = v} same = subst (Sweeps region places v) (sym same) sweeps_none

-- one in a wider region
pub sweeps_to : {region wider : Elements → Type 0} {places : List Elements} {u w : View} → ((q : Elements) → region q → wider q) → Sweeps region places u w → Sweeps wider places u w
sweeps_to {region = region} {wider = wider} {places = places} to s = record {
  alters = alters_to (λ q spot h. (wide q h.0, h.1)) (λ q e h. (wide q h.0, h.1)) s.alters;
  idle = λ none. s.idle (record { none = λ q within off leaf. none.none q (to q within) off leaf });
  empty = s.empty;
}
  where
    wide : (q : Elements) → IsStale region places q → IsStale wider places q
    wide q x = record { within = to q x.within; unwanted = x.unwanted }

pub sweeps_on : {region : Elements → Type 0} {places : List Elements} {u v w : View} → Sweeps region places u v → Sweeps region places v w → Sweeps region places u w
sweeps_on {region = region} {places = places} first step = record {
  alters = alters_on first.alters step.alters;
  idle = λ none. let same = first.idle none in step.idle (subst (HasNoStaleIn region places) (sym same) none) ∙ same;
  empty = shares_on first.empty step.empty step.alters.files;
}

leaf_absent : {e : Slot} → e ≡ absent → IsLeaf e → ⊥
leaf_absent none leaf = subst IsLeaf none leaf

-- what isn't there doesn't come
pub still_none : {region wider : Elements → Type 0} {places : List Elements} {v w : View} → Sweeps wider places v w → HasNoStaleIn region places v → HasNoStaleIn region places w
still_none s before = record {
  none = λ q within off leaf. elim (s.alters.names q) [ inl same ↦ before.none q within off (subst IsLeaf same leaf) | inr put ↦ leaf_absent put.1 leaf ];
}

-- ---- one path

module _ {places : List Elements} {path : Elements} where
  pub wanted_swept : Contains places path → (w : View) → HasNoStaleIn (Only path) places w
  wanted_swept wanted w = record { none = λ q is off leaf. off (subst (Contains places) (sym is) wanted) }

  only_stale : (Contains places path → ⊥) → (q : Elements) → q ≡ path → IsStale (Only path) places q
  only_stale off q is = record { within = is; unwanted = λ has. off (subst (Contains places) is has) }

  pub sweeps_one : {u w : View} → (Contains places path → ⊥) → Keeps (GoneAt path) (AbsentAt path) NoPath u w → SweepsAt path places u w
  sweeps_one off keeps = record {
    sweeps = λ leaf. record {
      alters = alters_to (λ q spot h. (only_stale off q h.0, h.1)) (λ q e h. (only_stale off q h.0, h.1)) (alters_kept keeps);
      idle = λ none. absurd (none.none path refl off leaf);
      empty = shares_empty keeps;
    };
  }

  pub one_swept : {w : View} → w.names path ≡ absent → HasNoStaleIn (Only path) places w
  one_swept {w = w} gone = record { none = λ q is off leaf. leaf_absent (ap w.names is ∙ gone) leaf }

  pub at_none : {v : View} → SweepsAt path places v v
  at_none = record { sweeps = λ leaf. sweeps_none }

  -- ---- a path that is no folder

  pub leaf_swept : {u v w : View} → v ≡ u → IsLeaf (u.names path) → SweepsAt path places v w → Sweeps (IsWithin path) places u w
  leaf_swept {w = w} same leaf s = sweeps_to (λ q is. inl is) ((subst (λ (x : View). SweepsAt path places x w) same s).sweeps leaf)

  still_no_dir : {u w : View} → IsLeaf (u.names path) → Sweeps (Only path) places u w → w.names path ≡ dir → ⊥
  still_no_dir {u = u} leaf s is = elim (s.alters.names path) [ inl same ↦ leaf_no_folder (u.names path) leaf (sym same ∙ is) | inr put ↦ absent_no_dir (sym put.1 ∙ is) ]
    where
      absent_no_dir : absent ≡ dir → ⊥
      absent_no_dir e = cc e

  -- nothing is below what is no folder
  pub no_folder_swept : {w : View} → IsTree w → (w.names path ≡ dir → ⊥) → HasNoStaleIn (Only path) places w → HasNoStaleIn (IsWithin path) places w
  no_folder_swept {w = w} tree off none = record {
    none = λ q within out leaf. elim within [
      | inl is ↦ none.none q is out leaf
      | inr above ↦ leaf_absent ((emptied_no_dir tree off).gone q above) leaf
    ];
  }

  pub leaf_done : {u v w : View} → IsTree w → v ≡ u → IsLeaf (u.names path) → SweepsAt path places v w → HasNoStaleIn (Only path) places w → HasNoStaleIn (IsWithin path) places w
  leaf_done {w = w} tree same leaf s none = no_folder_swept tree (still_no_dir leaf ((subst (λ (x : View). SweepsAt path places x w) same s).sweeps leaf)) none

  pub absent_done : {w : View} → IsTree w → w.names path ≡ absent → HasNoStaleIn (IsWithin path) places w
  absent_done {w = w} tree gone = no_folder_swept tree (λ is. absent_no_dir (sym gone ∙ is)) (one_swept gone)
    where
      absent_no_dir : absent ≡ dir → ⊥
      absent_no_dir e = cc e

  -- ---- a folder

  pub folder_done : {u v w : View} → v ≡ u → u.names path ≡ dir → Sweeps (IsAbove path) places v w → HasNoStaleIn (IsAbove path) places w → HasNoStaleIn (IsWithin path) places w
  folder_done {v = v} {w = w} same is s none = record {
    none = λ q within off leaf. elim within [
      | inr above ↦ none.none q above off leaf
      | inl at ↦ elim (s.alters.names path) [
        | inl kept ↦ leaf_no_folder (w.names path) (subst IsLeaf (ap w.names at) leaf) (kept ∙ ap (λ (x : View). x.names path) same ∙ is)
        | inr put ↦ leaf_absent put.1 (subst IsLeaf (ap w.names at) leaf)
      ]
    ];
  }

-- ---- what is in a folder

-- nothing is stale in or below these names in the folder
pub record AreSwept (p : Elements) (places : List Elements) (names : List (List ℕ)) (w : View) : Type 0 where
  pub each : (x : List ℕ) → Contains names x → HasNoStaleIn (IsWithin (x ∷ p)) places w

pub none_swept : (p : Elements) (places : List Elements) (w : View) → AreSwept p places [] w
none_swept p places w = record { each = λ x has. absurd (in_none x has) }

child_to : (p : Elements) (x : List ℕ) (q : Elements) → IsWithin (x ∷ p) q → IsAbove p q
child_to p x q within = within_child x p q within

module _ (p : Elements) (places : List Elements) (names : List (List ℕ)) (i : ℕ) (x : List ℕ) (low : i < length names) (is : x ≡ get_or names i x) where
  name_in : Contains names x
  name_in = subst (Contains names) (sym is) (Contains-get_or names i x low)

  pub child_on : {u v w : View} → Sweeps (IsAbove p) places u v → Sweeps (IsWithin (x ∷ p)) places v w → Sweeps (IsAbove p) places u w
  child_on first step = sweeps_on first (sweeps_to (child_to p x) step)

  pub swept_next : {v w : View} → AreSwept p places (take i names) v → Sweeps (IsWithin (x ∷ p)) places v w → HasNoStaleIn (IsWithin (x ∷ p)) places w → AreSwept p places (take (i + 1) names) w
  swept_next {w = w} before step here = record {
    each = λ y has. elim (took_cases names i x low is y has) [
      | inl earlier ↦ still_none step (before.each y earlier)
      | inr same ↦ subst (λ (z : List ℕ). HasNoStaleIn (IsWithin (z ∷ p)) places w) (sym same) here
    ];
  }

  -- a name that is listed is within reach
  pub within_reach : {u : View} {depth : ℕ} → ListsIn p u names → Reaches p depth u → depth ≡ 0 → ⊥
  within_reach lists reaches none = elim (reaches.far (x ∷ p) (inl refl)) [ inl gone ↦ (lists.each x).0 name_in gone | inr near ↦ absurd (omega (arith, near, none)) ]

pub reach_on : (p : Elements) (places : List Elements) (x : List ℕ) {u v : View} {depth : ℕ} → Sweeps (IsAbove p) places u v → Reaches p depth u → depth ≢ 0 → Reaches (x ∷ p) (depth - 1) v
reach_on p places x s reaches some = (reaches_child p x (λ q. elim (s.alters.names q) [ inl same ↦ inl same | inr put ↦ inr (put.0.within, put.1) ]) reaches some).below

folder_above : {w : View} → IsTree w → (r q : Elements) → IsAbove r q → w.names q ≢ absent → w.names r ≢ absent
folder_above tree r [] above some = absurd above
folder_above {w = w} tree r (x ∷ up) above some = elim (tree.above x up) [
  | inl none ↦ absurd (some none)
  | inr folder ↦ elim above [
    | inl is ↦ λ gone. there (sym folder ∙ sym (ap w.names is) ∙ gone)
    | inr more ↦ folder_above tree r up more (λ gone. there (sym folder ∙ gone))
  ]
]
  where
    there : dir ≡ absent → ⊥
    there e = cc e

pub all_swept : {p : Elements} {places : List Elements} {names : List (List ℕ)} {u w : View} → IsTree w → ListsIn p u names → Sweeps (IsAbove p) places u w → AreSwept p places names w → HasNoStaleIn (IsAbove p) places w
all_swept {p = p} {w = w} tree lists s swept = record {
  none = λ q above off leaf.
      let c = child_above p q above in
      let some : w.names (c.0 ∷ p) ≢ absent = elim c.1 [ inl is ↦ subst (λ (r : Elements). w.names r ≢ absent) is (leaf_there (w.names q) leaf) | inr higher ↦ folder_above tree (c.0 ∷ p) q higher (leaf_there (w.names q) leaf) ] in
      elim (s.alters.names (c.0 ∷ p)) [
        | inl same ↦ (swept.each c.0 ((lists.each c.0).1 (λ gone. some (same ∙ gone)))).none q c.1 off leaf
        | inr put ↦ some put.1
      ];
}

pub from_same : {region : Elements → Type 0} {places : List Elements} {u v w : View} → v ≡ u → Sweeps region places v w → Sweeps region places u w
from_same {region = region} {places = places} {w = w} same s = subst (λ (x : View). Sweeps region places x w) same s

-- what comes to be otherwise at or below the path comes to be absent
pub names_swept : {p : Elements} {places : List Elements} {v w : View} → Sweeps (IsWithin p) places v w → (q : Elements) → (w.names q ≡ v.names q) ⊎ AbsentWithin p q (w.names q)
names_swept s q = elim (s.alters.names q) [ inl same ↦ inl same | inr gone ↦ inr (gone.0.within, gone.1) ]
