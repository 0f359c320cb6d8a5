-- Lists with one row more, one less, or another, by what they have at each name; and what
-- operations on refs make of a state.
use Rattle.std.proofs.Common.{◌≡◌, ◌≢◌, inl, inr, ℕ, List, [], ◌∷◌, map, Bool, true, false, Some, None, refl, sym, ◌∙◌, ap, subst}
use Rattle.std.specs.Prelude.{if◌then◌else◌}
use Rattle.std.specs.List.{list_any}
use Rattle.std.specs.Str.{bytes_eq}
use Rattle.std.proofs.lemmas.Bool.{cases_Bool, false_from_ne_true}
use Rattle.fp_base.proofs.Options.{some_none}
use Rattle.fp_base.proofs.Texts.{bytes_eq-true, bytes_eq-same}
use Rattle.fp_host.specs.Reads.{is_ascending}
use Rattle.fp_name.specs.Refs.{Ref, ref_text}
use Rattle.fp_small.specs.Order.{comes_before, inserted, removed, replaced}
use Rattle.fp_small.proofs.Ordered.{bytes_eq-differ, map-inserted, is_ascending-inserted, is_ascending-removed}
use Rattle.fp_small.specs.declared.state.State.{State}
use Rattle.fp_small.specs.declared.state.RefRow.{RefRow}
use Rattle.fp_small.specs.declared.state.Previous.{Previous}
use Rattle.fp_small.specs.declared.state.OverrideRow.{OverrideRow}
use Rattle.fp_small.specs.declared.op.Op.TheVariants.{Install, Update, Uninstall, SetOverride, DropOverride, Rollback}
use Rattle.dep_states.specs.Shown.{at_name, ref_key, override_key}
use Rattle.dep_states.specs.Small.{IsLayered}
use Rattle.dep_states.specs.After.{row_at, with_refs, moved, updated, exchanged, back, rolled_back, after_op}
use Rattle.dep_states.specs.Switch.{IsWith}

module _ {A : Type 0} (name : A → List ℕ) where
  pub at_removed : (xs : List A) (x t : List ℕ) → at_name name (removed name xs x) t ≡ (if bytes_eq x t then None else at_name name xs t)
  at_removed [] x t = by (bytes_eq x t)
    where
      by : (b : Bool) → at_name name [] t ≡ (if b then None else at_name name [] t)
      by true = refl
      by false = refl
  at_removed (y ∷ ys) x t = elim (cases_Bool (bytes_eq (name y) x)) [
    | inl same ↦ let is : name y ≡ x = bytes_eq-true (name y) x same in
        elim (cases_Bool (bytes_eq x t)) [
          | inl here ↦ rw same (at_removed ys x t ∙ rw here refl)
          | inr off ↦ let other : bytes_eq (name y) t ≡ false = ap (λ z. bytes_eq z t) is ∙ off in rw same (at_removed ys x t ∙ rw (off, other) refl)
        ]
    | inr differ ↦ elim (cases_Bool (bytes_eq (name y) t)) [
      | inl here ↦ let off : bytes_eq x t ≡ false = ap (bytes_eq x) (sym (bytes_eq-true (name y) t here)) ∙ bytes_eq-differ (name y) x differ in rw (differ, here, off) refl
      | inr other ↦ rw (differ, other) (at_removed ys x t)
    ]
  ]

  -- what a list hasn't, its tail hasn't
  none_on : (y : A) (ys : List A) (t : List ℕ) → at_name name (y ∷ ys) t ≡ None → (bytes_eq (name y) t ≡ false) × (at_name name ys t ≡ None)
  none_on y ys t e = elim (cases_Bool (bytes_eq (name y) t)) [
    | inl here ↦ absurd (some_none (rw here at e))
    | inr off ↦ (off, rw off at e)
  ]

  pub at_inserted : (xs : List A) (a : A) (t : List ℕ) → at_name name xs (name a) ≡ None → at_name name (inserted name xs a) t ≡ (if bytes_eq (name a) t then Some a else at_name name xs t)
  at_inserted [] a t none = refl
  at_inserted (y ∷ ys) a t none =
      let n = none_on y ys (name a) none in
      elim (cases_Bool (comes_before (name y) (name a))) [
        | inl before ↦ elim (cases_Bool (bytes_eq (name y) t)) [
          | inl here ↦ let off : bytes_eq (name a) t ≡ false = ap (bytes_eq (name a)) (sym (bytes_eq-true (name y) t here)) ∙ bytes_eq-differ (name y) (name a) n.0 in rw (before, here, off) refl
          | inr other ↦ rw (before, other) (at_inserted ys a t n.1)
        ]
        | inr remainder ↦ rw remainder refl
      ]

  pub at_replaced : (xs : List A) (a : A) (t : List ℕ) → at_name name (replaced name xs a) t ≡ (if bytes_eq (name a) t then Some a else at_name name xs t)
  at_replaced xs a t =
      at_inserted (removed name xs (name a)) a t (at_removed xs (name a) (name a) ∙ rw (bytes_eq-same (name a)) refl)
      ∙ elim (cases_Bool (bytes_eq (name a) t)) [
        | inl here ↦ rw here refl
        | inr off ↦ rw off (at_removed xs (name a) t ∙ rw off refl)
      ]

  -- ---- they ascend

  map-removed : (xs : List A) (x : List ℕ) → map name (removed name xs x) ≡ removed (λ p. p) (map name xs) x
  map-removed [] x = refl
  map-removed (y ∷ ys) x = elim (cases_Bool (bytes_eq (name y) x)) [
    | inl e ↦ rw e (map-removed ys x)
    | inr e ↦ rw e (ap (λ (zs : List (List ℕ)). name y ∷ zs) (map-removed ys x))
  ]

  none_any : (xs : List A) (t : List ℕ) → at_name name xs t ≡ None → list_any (bytes_eq t) (map name xs) ≡ false
  none_any [] t none = refl
  none_any (y ∷ ys) t none = let n = none_on y ys t none in rw (bytes_eq-differ (name y) t n.0) (none_any ys t n.1)

  pub removed_ascends : (xs : List A) (x : List ℕ) → is_ascending (map name xs) ≡ true → is_ascending (map name (removed name xs x)) ≡ true
  removed_ascends xs x up = ap is_ascending (map-removed xs x) ∙ is_ascending-removed (map name xs) x up

  pub inserted_ascends : (xs : List A) (a : A) → at_name name xs (name a) ≡ None → is_ascending (map name xs) ≡ true → is_ascending (map name (inserted name xs a)) ≡ true
  inserted_ascends xs a none up = ap is_ascending (map-inserted name xs a) ∙ is_ascending-inserted (map name xs) (name a) up (none_any xs (name a) none)

  pub replaced_ascends : (xs : List A) (a : A) → is_ascending (map name xs) ≡ true → is_ascending (map name (replaced name xs a)) ≡ true
  replaced_ascends xs a up =
      inserted_ascends (removed name xs (name a)) a (at_removed xs (name a) (name a) ∙ rw (bytes_eq-same (name a)) refl) (removed_ascends xs (name a) up)

off_false : (x t : List ℕ) → t ≢ x → bytes_eq x t ≡ false
off_false x t off = false_from_ne_true (bytes_eq x t) (λ e. off (sym (bytes_eq-true x t e)))

-- ---- operations on refs

module _ (s : State) (up : is_ascending (map ref_key s.refs) ≡ true) where
  pub with_row : (row : RefRow) → IsWith s row.name (Some row) (with_refs s (replaced ref_key s.refs row))
  with_row row = record {
    setup = refl;
    overrides = refl;
    here = at_replaced ref_key s.refs row (ref_key row) ∙ rw (bytes_eq-same (ref_key row)) refl;
    others = λ text off. at_replaced ref_key s.refs row text ∙ rw (off_false (ref_key row) text off) refl;
    ascend = replaced_ascends ref_key s.refs row up;
  }

  pub with_new : (row : RefRow) → row_at s row.name ≡ None → IsWith s row.name (Some row) (with_refs s (inserted ref_key s.refs row))
  with_new row none = record {
    setup = refl;
    overrides = refl;
    here = at_inserted ref_key s.refs row (ref_key row) none ∙ rw (bytes_eq-same (ref_key row)) refl;
    others = λ text off. at_inserted ref_key s.refs row text none ∙ rw (off_false (ref_key row) text off) refl;
    ascend = inserted_ascends ref_key s.refs row none up;
  }

  pub without_row : (name : Ref) → IsWith s name None (with_refs s (removed ref_key s.refs (ref_text name)))
  without_row name = record {
    setup = refl;
    overrides = refl;
    here = at_removed ref_key s.refs (ref_text name) (ref_text name) ∙ rw (bytes_eq-same (ref_text name)) refl;
    others = λ text off. at_removed ref_key s.refs (ref_text name) text ∙ rw (off_false (ref_text name) text off) refl;
    ascend = removed_ascends ref_key s.refs (ref_text name) up;
  }

  -- the four operations
  pub after_install : (name : Ref) (remote commit : List ℕ) (time : ℕ) → row_at s name ≡ None
      → IsWith s name (Some (record { name = name; origin = remote; commit = commit; timestamp = time; previous = None })) (after_op s time (Install name remote commit))
  after_install name remote commit time none = with_new (record { name = name; origin = remote; commit = commit; timestamp = time; previous = None }) none

  pub after_update : (name : Ref) (remote commit : List ℕ) (time : ℕ) (row : RefRow) → row_at s name ≡ Some row
      → IsWith s name (Some (moved name remote commit time row)) (after_op s time (Update name remote commit))
  after_update name remote commit time row is =
      subst (λ t. IsWith s name (Some (moved name remote commit time row)) t) (sym (ap (updated s name remote commit time) is)) (with_row (moved name remote commit time row))

  pub after_uninstall : (name : Ref) (time : ℕ) → IsWith s name None (after_op s time (Uninstall name))
  after_uninstall name time = without_row name

  pub after_rollback : (commit : List ℕ) (time : ℕ) (row : RefRow) (p : Previous) → row_at s row.name ≡ Some row → row.previous ≡ Some p
      → IsWith s row.name (Some (exchanged row p)) (after_op s time (Rollback row.name commit))
  after_rollback commit time row p is before =
      subst (λ t. IsWith s row.name (Some (exchanged row p)) t) (sym (ap (rolled_back s) is ∙ ap (λ o. back s row o) before)) (with_row (exchanged row p))

-- ---- operations on overrides

module _ (s : State) (up : is_ascending (map override_key s.overrides) ≡ true) where
  pub after_set : (row : OverrideRow) (time : ℕ) → IsLayered s row.name (after_op s time (SetOverride row))
  after_set row time = record {
    setup = refl;
    refs = refl;
    others = λ name off. at_replaced override_key s.overrides row name ∙ rw (off_false row.name name off) refl;
    ascend = replaced_ascends override_key s.overrides row up;
  }

  pub after_drop : (name : List ℕ) (time : ℕ) → IsLayered s name (after_op s time (DropOverride name))
  after_drop name time = record {
    setup = refl;
    refs = refl;
    others = λ other off. at_removed override_key s.overrides name other ∙ rw (off_false name other off) refl;
    ascend = removed_ascends override_key s.overrides name up;
  }
