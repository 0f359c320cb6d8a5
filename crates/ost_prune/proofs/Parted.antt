-- Commits that go before other objects.
use Rattle.std.proofs.Common.{◌≡◌, inl, inr, ◌<◌, ◌+◌, ℕ, Bool, true, false, cond, List, [], ◌∷◌, ◌++◌, map, take, get_or, length, Option, refl, sym, ◌∙◌, ap, subst, Contains, append-nil}
use Rattle.std.specs.Prelude.{is_some}
use Rattle.std.specs.List.{filter}
use Rattle.std.proofs.lemmas.Bool.{and_parts, and_from, both_ways, cases_Bool, not_from_false, not-true}
use Rattle.std.proofs.Math.Seq.{take-length}
use Rattle.std.proofs.lemmas.List.Elements.{filter_more}
use Rattle.fp_host.specs.Paths.{Elements, absent}
use Rattle.fp_host.specs.View.{View, IsTree}
use Rattle.fp_host.specs.Frame.{Keeps, Frame, AtEnd, Unchanged, NoPath}
use Rattle.fp_host.specs.Moments.{Moments, Always}
use Rattle.fp_host.specs.Reads.{comes_first, is_ascending}
use Rattle.fp_host.proofs.Framed.{IsTold, frame_start, frame_within}
use Rattle.fp_host.proofs.Goes.{stays, begins, goes_on}
use Rattle.fp_host.proofs.Ending.{goes_known, ends_on, ends_both, ends_frame, ends_looks}
use Rattle.fp_small.proofs.Ordered.{comes_first-on}
use Rattle.fp_name.specs.Hex.{is_digest}
use Rattle.fp_base.specs.declared.object.ObjKind.{ObjKind}
use Rattle.fp_base.proofs.Lists.{in_none, in_first, in_rest, in_cases}
use Rattle.ost_model.specs.Objects.{object_at}
use Rattle.ost_model.proofs.Stores.{one_name}
use Rattle.ost_store.proofs.Staying.{shown_stays}
use Rattle.ost_prune.specs.Prune.{is_commit, CommitsFirst, ListsUnused}
use Rattle.ost_store.specs.Names.{name_in, name_text}
use Rattle.ost_prune.specs.Removing.{IsAmong, GoneAmong, AbsentAmong, AreGone, is_other, commits_of, others_of, GoInOrder, CanRemoveAll}

abbrev Object : Type 0
Object = List ℕ × ObjKind

-- ---- what a test leaves of a list

from_filter : (p : Object → Bool) (xs : List Object) (o : Object) → Contains (filter p xs) o → Contains xs o × (p o ≡ true)
from_filter p [] o has = absurd (in_none o has)
from_filter p (x ∷ xs) o has = elim (cases_Bool (p x)) [
  | inl holds ↦ elim (in_cases x (filter p xs) o (subst (λ (b : Bool). Contains (cond b (x ∷ filter p xs) (filter p xs)) o) holds has)) [
    | inl same ↦ (subst (Contains (x ∷ xs)) (sym same) (in_first x xs), ap p same ∙ holds)
    | inr later ↦ let f = from_filter p xs o later in (in_rest x xs o f.0, f.1)
  ]
  | inr fails ↦ let f = from_filter p xs o (subst (λ (b : Bool). Contains (cond b (x ∷ filter p xs) (filter p xs)) o) fails has) in (in_rest x xs o f.0, f.1)
]

to_filter : (p : Object → Bool) (xs : List Object) (o : Object) → Contains xs o → p o ≡ true → Contains (filter p xs) o
to_filter p [] o has is = absurd (in_none o has)
to_filter p (x ∷ xs) o has is = elim (cases_Bool (p x)) [
  | inl holds ↦
      let here : Contains (x ∷ filter p xs) o = elim (in_cases x xs o has) [
        | inl same ↦ subst (Contains (x ∷ filter p xs)) (sym same) (in_first x (filter p xs))
        | inr later ↦ in_rest x (filter p xs) o (to_filter p xs o later is)
      ] in
      subst (λ (b : Bool). Contains (cond b (x ∷ filter p xs) (filter p xs)) o) (sym holds) here
  | inr fails ↦
      let here : Contains (filter p xs) o = elim (in_cases x xs o has) [
        | inl same ↦ absurd (both_ways (p x) fails (ap p (sym same) ∙ is))
        | inr later ↦ to_filter p xs o later is
      ] in
      subst (λ (b : Bool). Contains (cond b (x ∷ filter p xs) (filter p xs)) o) (sym fails) here
]

first_left : (root : Elements) (p : Object → Bool) (t : List ℕ) (xs : List Object) → comes_first t (map (name_text root) xs) ≡ true → is_ascending (map (name_text root) xs) ≡ true → comes_first t (map (name_text root) (filter p xs)) ≡ true
first_left root p t [] first h = refl
first_left root p t (x ∷ xs) first h = elim (cases_Bool (p x)) [
  | inl holds ↦ subst (λ (b : Bool). comes_first t (map (name_text root) (cond b (x ∷ filter p xs) (filter p xs))) ≡ true) (sym holds) first
  | inr fails ↦
      let a = and_parts (comes_first (name_text root x) (map (name_text root) xs)) (is_ascending (map (name_text root) xs)) h in
      subst (λ (b : Bool). comes_first t (map (name_text root) (cond b (x ∷ filter p xs) (filter p xs))) ≡ true) (sym fails) (first_left root p t xs (comes_first-on t (name_text root x) (map (name_text root) xs) first a.0) a.1)
]

still_ascending : (root : Elements) (p : Object → Bool) (xs : List Object) → is_ascending (map (name_text root) xs) ≡ true → is_ascending (map (name_text root) (filter p xs)) ≡ true
still_ascending root p [] h = refl
still_ascending root p (x ∷ xs) h =
    let a = and_parts (comes_first (name_text root x) (map (name_text root) xs)) (is_ascending (map (name_text root) xs)) h in
    let rest = still_ascending root p xs a.1 in
    elim (cases_Bool (p x)) [
      | inl holds ↦ subst (λ (b : Bool). is_ascending (map (name_text root) (cond b (x ∷ filter p xs) (filter p xs))) ≡ true) (sym holds)
          (and_from (comes_first (name_text root x) (map (name_text root) (filter p xs))) (is_ascending (map (name_text root) (filter p xs))) (first_left root p (name_text root x) xs a.0 a.1) rest)
      | inr fails ↦ subst (λ (b : Bool). is_ascending (map (name_text root) (cond b (x ∷ filter p xs) (filter p xs))) ≡ true) (sym fails) rest
    ]

-- ---- object after object

module _ (p : Object → Bool) (objects : List Object) (i : ℕ) (o : Object) (low : i < length objects) (is : o ≡ get_or objects i o) where
  one_more : (b : Bool) → p o ≡ b → filter p (take (i + 1) objects) ≡ filter p (take i objects) ++ cond b (o ∷ []) []
  one_more b test = filter_more p objects i o low ∙ ap (λ (x : Object). filter p (take i objects) ++ cond (p x) (x ∷ []) []) (sym is) ∙ ap (λ (c : Bool). filter p (take i objects) ++ cond c (o ∷ []) []) test

  pub more_in : p o ≡ true → filter p (take (i + 1) objects) ≡ filter p (take i objects) ++ o ∷ []
  more_in holds = one_more true holds

  pub more_out : p o ≡ false → filter p (take (i + 1) objects) ≡ filter p (take i objects)
  more_out fails = one_more false fails ∙ append-nil (filter p (take i objects))

pub all_parted : (p : Object → Bool) (objects : List Object) (i : ℕ) {had : List Object} → length objects ≡ i → had ≡ filter p (take i objects) → had ≡ filter p objects
all_parted p objects i is so_far = so_far ∙ ap (filter p) (ap (λ (k : ℕ). take k objects) (sym is) ∙ take-length objects)

-- ---- the commits, and then the others

pub among_part : (root : Elements) (p : Object → Bool) (objects : List Object) (q : Elements) → IsAmong root (filter p objects) q → IsAmong root objects q
among_part root p objects q a = record { object = a.object; among = (from_filter p objects a.object a.among).0; name = a.name }

-- what is gone stays so
stays_gone : (root : Elements) (xs : List Object) {v w : View} (q : Elements) → v.names q ≡ absent → Keeps (GoneAmong root xs) (AbsentAmong root xs) NoPath v w → w.names q ≡ absent
stays_gone root xs q gone keeps = elim (keeps.names q) [ inl same ↦ same ∙ gone | inr put ↦ put.1 ]

module _ (root : Elements) (objects : List Object) where
  -- another object has its name still
  other_stays : {u v : View} → ((o : Object) → Contains objects o → is_digest o.0 ≡ true) → Keeps (GoneAmong root (commits_of objects)) (AbsentAmong root (commits_of objects)) NoPath u v
      → (o : Object) → Contains objects o → is_commit o ≡ false → v.names (name_in root o) ≡ u.names (name_in root o)
  other_stays good keeps o has other = elim (keeps.names (name_in root o)) [
    | inl same ↦ same
    | inr put ↦
        let a = put.0 in
        let f = from_filter is_commit objects a.object a.among in
        let one = one_name root a.object.0 o.0 a.object.1 o.1 (good a.object f.0) (good o has) (sym a.name) in
        let same : a.object ≡ o = (λ j. (one.0 j, one.1 j)) in
        absurd (both_ways (is_commit o) other (ap is_commit (sym same) ∙ f.1))
  ]

  pub can_commits : {u v : View} → v ≡ u → CanRemoveAll root objects u → CanRemoveAll root (commits_of objects) v
  can_commits same can = subst (CanRemoveAll root (commits_of objects)) (sym same) (record {
    digits = λ o has. can.digits o (from_filter is_commit objects o has).0;
    there = λ o has. can.there o (from_filter is_commit objects o has).0;
    ascending = still_ascending root is_commit objects can.ascending;
  })

  pub can_others : {u v : View} → IsTree u → IsTree v → CanRemoveAll root objects u → Keeps (GoneAmong root (commits_of objects)) (AbsentAmong root (commits_of objects)) NoPath u v → CanRemoveAll root (others_of objects) v
  can_others {u = u} {v = v} tree tree' can keeps = record {
    digits = λ o has. can.digits o (from_filter is_other objects o has).0;
    there = λ o has.
        let f = from_filter is_other objects o has in
        let name = other_stays can.digits keeps o f.0 (not-true (is_commit o) f.1) in
        let shown = shown_stays (name_in root o) u v (record { name = name; row = λ id g at row. keeps.files id g row (λ q none at. none) }) tree tree' in
        record { there = ap (λ s. is_some (object_at o.1 s)) shown ∙ (can.there o f.0).there };
    ascending = still_ascending root is_other objects can.ascending;
  }

  pub both_gone : {v w : View} → AreGone root (commits_of objects) v → Keeps (GoneAmong root (others_of objects)) (AbsentAmong root (others_of objects)) NoPath v w → AreGone root (others_of objects) w → AreGone root objects w
  both_gone first keeps second = record {
    gone = λ o has. elim (cases_Bool (is_commit o)) [
      | inl commit ↦ stays_gone root (others_of objects) (name_in root o) (first.gone o (to_filter is_commit objects o has commit)) keeps
      | inr other ↦ second.gone o (to_filter is_other objects o has (not_from_false (is_commit o) other))
    ];
  }

  order_first : {u v : View} → Keeps (GoneAmong root (commits_of objects)) (AbsentAmong root (commits_of objects)) NoPath u v → GoInOrder root objects u v
  order_first keeps = record { first = λ good. inl (λ o has other. other_stays good keeps o has other) }

  order_then : {u v w : View} → AreGone root (commits_of objects) v → Keeps (GoneAmong root (others_of objects)) (AbsentAmong root (others_of objects)) NoPath v w → GoInOrder root objects u w
  order_then gone keeps = record { first = λ good. inr (λ o has commit. stays_gone root (others_of objects) (name_in root o) (gone.gone o (to_filter is_commit objects o has commit)) keeps) }

  order_same : {u w : View} → w ≡ u → GoInOrder root objects u w
  order_same same = record { first = λ good. inl (λ o has other. ap (λ (x : View). x.names (name_in root o)) same) }

  pub order_start : {a : Option Moments} → IsTold a → Always (GoInOrder root objects) a a
  order_start told = stays told (λ u. order_same refl) (λ u t. order_same refl)

  pub order_commits : {a b : Option Moments} → IsTold a → Frame (GoneAmong root (commits_of objects)) (AbsentAmong root (commits_of objects)) NoPath a b → Always (GoInOrder root objects) a b
  order_commits told frame = begins told frame.goes (λ u w t k. order_first k) (λ u w t k l. order_first k)

  pub order_all : {a b c : Option Moments} → IsTold a → IsTold b → Frame (GoneAmong root (commits_of objects)) (AbsentAmong root (commits_of objects)) NoPath a b → AtEnd (λ u w. AreGone root (commits_of objects) w) a b
      → Frame (GoneAmong root (others_of objects)) (AbsentAmong root (others_of objects)) NoPath b c → Always (GoInOrder root objects) a c
  order_all told between first gone second = goes_on between (goes_known (order_commits told first) gone) second.goes (λ u v w t r q s. order_then q.1 s) (λ u v w t r q s e. order_then q.1 e)

  pub gone_all : {a b c : Option Moments} → IsTold b → AtEnd (λ u w. AreGone root (commits_of objects) w) a b → Frame (GoneAmong root (others_of objects)) (AbsentAmong root (others_of objects)) NoPath b c
      → AtEnd (λ u w. AreGone root (others_of objects) w) b c → AtEnd (λ u w. AreGone root objects w) a c
  gone_all between gone second done = ends_on (ends_both (ends_frame between second) done) gone between (λ u v w tree q s. both_gone q s.0 s.1)

  pub frame_commits : {a b : Option Moments} → IsTold a → Frame (GoneAmong root (commits_of objects)) (AbsentAmong root (commits_of objects)) NoPath a b → Frame (GoneAmong root objects) (AbsentAmong root objects) NoPath a b
  frame_commits told first = frame_within first (frame_start told) told (λ q spot h. (among_part root is_commit objects q h.0, h.1)) (λ q e h. (among_part root is_commit objects q h.0, h.1)) (λ q none. none) (λ q id none h. none)

  pub frame_all : {a b c : Option Moments} → IsTold a → IsTold b → Frame (GoneAmong root (commits_of objects)) (AbsentAmong root (commits_of objects)) NoPath a b → Frame (GoneAmong root (others_of objects)) (AbsentAmong root (others_of objects)) NoPath b c
      → Frame (GoneAmong root objects) (AbsentAmong root objects) NoPath a c
  frame_all told between first second = frame_within second (frame_commits told first) between (λ q spot h. (among_part root is_other objects q h.0, h.1)) (λ q e h. (among_part root is_other objects q h.0, h.1)) (λ q none. none) (λ q id none h. none)

-- ---- of a list that is one of the two

module _ {root : Elements} {xs zs : List Object} (same : zs ≡ xs) {a b : Option Moments} where
  pub frame_of : Frame (GoneAmong root zs) (AbsentAmong root zs) NoPath a b → Frame (GoneAmong root xs) (AbsentAmong root xs) NoPath a b
  frame_of frame = subst (λ (l : List Object). Frame (GoneAmong root l) (AbsentAmong root l) NoPath a b) same frame

  pub gone_of : AtEnd (λ u w. AreGone root zs w) a b → AtEnd (λ u w. AreGone root xs w) a b
  gone_of gone = subst (λ (l : List Object). AtEnd (λ u w. AreGone root l w) a b) same gone

-- ---- of what nobody keeps

order_looked : {root : Elements} {keep : List (List ℕ)} {u w : View} → w ≡ u → CommitsFirst root keep u w
order_looked {root = root} same = record { first = inl (λ o is other. ap (λ (x : View). x.names (name_in root o)) same) }

pub looked_order : {a b : Option Moments} {root : Elements} {keep : List (List ℕ)} → IsTold a → Unchanged a b → Always (CommitsFirst root keep) a b
looked_order told still = begins told still.goes (λ u w t same. order_looked same) (λ u w t same q. order_looked same)

commits_first : {root : Elements} {keep : List (List ℕ)} {objects : List Object} {u v w : View} → v ≡ u → ListsUnused root keep u objects → GoInOrder root objects v w → CommitsFirst root keep u w
commits_first {root = root} {keep = keep} {objects = objects} {u = u} {w = w} same lists order =
    let here : GoInOrder root objects u w = subst (λ (x : View). GoInOrder root objects x w) same order in
    record {
      first = elim (here.first (λ o has. ((lists.each o).0 has).digits)) [
        | inl stay ↦ inl (λ o is other. stay o ((lists.each o).1 is) other)
        | inr gone ↦ inr (λ o is commit. gone o ((lists.each o).1 is) commit)
      ];
    }

pub pruned_order : {a b c : Option Moments} {root : Elements} {keep : List (List ℕ)} {objects : List Object} → IsTold a → IsTold b → Unchanged a b → AtEnd (λ u w. ListsUnused root keep u objects) a b
    → Always (GoInOrder root objects) b c → Always (CommitsFirst root keep) a c
pruned_order told between still lists order = goes_on between (goes_known (looked_order told still) (ends_both (ends_looks told still) lists)) order
    (λ u v w t r q s. commits_first q.1.0.0 q.1.1 s) (λ u v w t r q s e. commits_first q.1.0.0 q.1.1 e)
