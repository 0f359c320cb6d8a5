-- Objects that go one after another.
use Rattle.std.proofs.Common.{◌≡◌, inl, inr, ◌<◌, ◌+◌, ℕ, suc, true, false, List, [], ◌∷◌, ◌++◌, map, take, drop, get_or, length, sym, ◌∙◌, ap, subst, Contains, arith}
use Rattle.std.specs.Prelude.{is_some}
use Rattle.std.proofs.Math.Seq.{take-suc, take-length, drop-cons}
use Rattle.std.proofs.lemmas.Bool.{and_parts, both_ways}
use Rattle.std.proofs.lemmas.List.{take-append-drop}
use Rattle.std.proofs.lemmas.List.Elements.{Contains-append_left, Contains-append_right, Contains-push, Contains-push_cases, Contains-get_or}
use Rattle.fp_host.specs.Paths.{Elements, Slot, absent}
use Rattle.fp_host.specs.View.{View, IsTree}
use Rattle.fp_host.specs.Outcome.{Spot}
use Rattle.fp_host.specs.Frame.{Keeps, NoPath}
use Rattle.fp_host.specs.Reads.{comes_first, is_ascending}
use Rattle.fp_small.specs.Clear.{GoneAt, AbsentAt}
use Rattle.fp_small.specs.Order.{comes_before}
use Rattle.fp_small.proofs.Ordered.{not_before_itself, first_below}
use Rattle.fp_base.specs.declared.object.ObjKind.{ObjKind}
use Rattle.fp_base.proofs.Lists.{in_none, in_first, in_cases, in_map}
use Rattle.ost_model.specs.Objects.{object_path, object_at}
use Rattle.ost_store.specs.Place.{HasObject, WasRemoved}
use Rattle.ost_store.proofs.Staying.{shown_stays}
use Rattle.ost_model.proofs.Stores.{one_name}
use Rattle.fp_host.proofs.Framed.{keeps_on, keeps_to}
use Rattle.ost_store.specs.Names.{name_in, name_text}
use Rattle.ost_prune.specs.Removing.{IsAmong, GoneAmong, AbsentAmong, AreGone, CanRemoveAll}

abbrev Object : Type 0
Object = List ℕ × ObjKind

not_again : (root : Elements) (xs : List Object) (o : Object) (ys : List Object) → is_ascending (map (name_text root) (xs ++ o ∷ ys)) ≡ true → Contains xs o → ⊥
not_again root [] o ys h has = in_none o has
not_again root (x ∷ xs) o ys h has =
    let a = and_parts (comes_first (name_text root x) (map (name_text root) (xs ++ o ∷ ys))) (is_ascending (map (name_text root) (xs ++ o ∷ ys))) h in
    elim (in_cases x xs o has) [
      | inl same ↦
          let below = first_below (name_text root x) (map (name_text root) (xs ++ o ∷ ys)) (name_text root o) a.0 a.1 (in_map (name_text root) (xs ++ o ∷ ys) o (Contains-append_right xs (o ∷ ys) o (in_first o ys))) in
          both_ways (comes_before (name_text root x) (name_text root o)) (subst (λ (p : Object). comes_before (name_text root x) (name_text root p) ≡ false) (sym same) (not_before_itself (name_text root x))) below
      | inr later ↦ not_again root xs o ys a.1 later
    ]

module _ (root : Elements) (objects : List Object) (i : ℕ) (o : Object) (low : i < length objects) (is : o ≡ get_or objects i o) where
  o_in : Contains objects o
  o_in = subst (Contains objects) (sym is) (Contains-get_or objects i o low)

  taken : take (i + 1) objects ≡ take i objects ++ o ∷ []
  taken =
      let more : i + 1 ≡ suc i = omega arith in
      ap (λ (k : ℕ). take k objects) more ∙ take-suc objects i o low ∙ ap (λ (x : Object). take i objects ++ x ∷ []) (sym is)

  pub gone_among : (q : Elements) (spot : Spot) → GoneAt (object_path root o.0 o.1) q spot → GoneAmong root objects q spot
  gone_among q spot h = (record { object = o; among = o_in; name = h.0 }, h.1)

  pub absent_among : (q : Elements) (e : Slot) → AbsentAt (object_path root o.0 o.1) q e → AbsentAmong root objects q e
  absent_among q e h = (record { object = o; among = o_in; name = h.0 }, h.1)

  -- one more is gone
  pub next_gone : {v w : View} → AreGone root (take i objects) v → Keeps (GoneAt (object_path root o.0 o.1)) (AbsentAt (object_path root o.0 o.1)) NoPath v w → WasRemoved (object_path root o.0 o.1) v w → AreGone root (take (i + 1) objects) w
  next_gone {w = w} before keeps was = record {
    gone = λ p has. elim (Contains-push_cases (take i objects) o p (subst (λ (l : List Object). Contains l p) taken has)) [
      | inl earlier ↦ elim (keeps.names (name_in root p)) [ inl same ↦ same ∙ before.gone p earlier | inr put ↦ put.1 ]
      | inr same ↦ subst (λ (x : Object). w.names (name_in root x) ≡ absent) same was.left
    ];
  }

  -- what was done so far, and this
  pub next_kept : {u v w : View} → Keeps (GoneAmong root (take i objects)) (AbsentAmong root (take i objects)) NoPath u v
      → Keeps (GoneAt (object_path root o.0 o.1)) (AbsentAt (object_path root o.0 o.1)) NoPath v w
      → Keeps (GoneAmong root (take (i + 1) objects)) (AbsentAmong root (take (i + 1) objects)) NoPath u w
  next_kept before keeps = keeps_on
      (keeps_to (λ q spot h. (wider q h.0, h.1)) (λ q e h. (wider q h.0, h.1)) (λ q none. none) (λ q id none h. none) before)
      (keeps_to (λ q spot h. (here q h.0, h.1)) (λ q e h. (here q h.0, h.1)) (λ q none. none) (λ q id none h. none) keeps)
    where
      wider : (q : Elements) → IsAmong root (take i objects) q → IsAmong root (take (i + 1) objects) q
      wider q a = record { object = a.object; among = subst (λ (l : List Object). Contains l a.object) (sym taken) (Contains-append_left (take i objects) (o ∷ []) a.object a.among); name = a.name }

      here : (q : Elements) → q ≡ object_path root o.0 o.1 → IsAmong root (take (i + 1) objects) q
      here q name = record { object = o; among = subst (λ (l : List Object). Contains l o) (sym taken) (Contains-push (take i objects) o); name = name }

  split : objects ≡ take i objects ++ o ∷ drop (suc i) objects
  split = sym (take-append-drop i objects) ∙ ap (λ (l : List Object). take i objects ++ l) (drop-cons objects i o low ∙ ap (λ (x : Object). x ∷ drop (suc i) objects) (sym is))

  -- this one is there still
  pub there_still : {u v : View} → IsTree u → IsTree v → CanRemoveAll root objects u → Keeps (GoneAmong root (take i objects)) (AbsentAmong root (take i objects)) NoPath u v → HasObject root o.0 o.1 v
  there_still {u = u} {v = v} tree tree' can keeps =
      let p = object_path root o.0 o.1 in
      let name : v.names p ≡ u.names p = elim (keeps.names p) [
        | inl same ↦ same
        | inr put ↦
            let a = put.0 in
            let first = Contains-take objects i a.object a.among in
            let one = one_name root a.object.0 o.0 a.object.1 o.1 (can.digits a.object first) (can.digits o o_in) (sym a.name) in
            let same : a.object ≡ o = (λ j. (one.0 j, one.1 j)) in
            absurd (not_again root (take i objects) o (drop (suc i) objects) (subst (λ (l : List Object). is_ascending (map (name_text root) l) ≡ true) split can.ascending) (subst (Contains (take i objects)) same a.among))
      ] in
      let shown = shown_stays p u v (record { name = name; row = λ id f at row. keeps.files id f row (λ q none at. none) }) tree tree' in
      record { there = ap (λ s. is_some (object_at o.1 s)) shown ∙ (can.there o o_in).there }
    where
      Contains-take : (xs : List Object) (k : ℕ) (x : Object) → Contains (take k xs) x → Contains xs x
      Contains-take xs k x has = subst (λ (l : List Object). Contains l x) (take-append-drop k xs) (Contains-append_left (take k xs) (drop k xs) x has)

pub none_gone : (root : Elements) (v : View) → AreGone root [] v
none_gone root v = record { gone = λ o has. absurd (in_none o has) }

pub all_gone : (root : Elements) (objects : List Object) (i : ℕ) (v : View) → length objects ≡ i → AreGone root (take i objects) v → AreGone root objects v
all_gone root objects i v is so_far = subst (λ (l : List Object). AreGone root l v) (ap (λ (k : ℕ). take k objects) (sym is) ∙ take-length objects) so_far
