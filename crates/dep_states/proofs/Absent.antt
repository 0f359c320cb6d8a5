-- An object name that may be absent is fixed in no outcome: names are chosen independently, and
-- each choice is Sound.
use Rattle.std.proofs.Common.{◌≡◌, ◌≢◌, inl, inr, ℕ, List, ◌∷◌, Option, Some, None, refl, sym, ◌∙◌, ap, subst}
use Rattle.fp_base.specs.declared.object.ObjKind.{ObjKind}
use Rattle.fp_host.specs.Paths.{Elements, Slot, absent, dir, file, link, set_at, under, at}
use Rattle.fp_host.specs.View.{View, Inode, MayBe}
use Rattle.fp_host.specs.Outcome.{Spot, gone, spot_of, Disk, Leaves}
use Rattle.fp_host.proofs.Separate.{path_cases, set_same, set_other, at_cases, at_off, IsClosed}
use Rattle.fp_small.specs.Places.{repo}
use Rattle.fp_small.specs.declared.state.State.{State}
use Rattle.ost_model.specs.Objects.{object_path, object_at, object_fault, missing, store}
use Rattle.ost_model.specs.Order.{Place, In, order}
use Rattle.ost_model.proofs.Places.{faultless, order_same}
use Rattle.ost_model.proofs.Spots.{none_gone, none_folder}
use Rattle.dep_states.specs.Names.{active, text_dir, deploy}
use Rattle.dep_states.specs.Sound.{Keeps, Fixed, Opens}
use Rattle.dep_states.proofs.Law.{ref_same}
use Rattle.dep_states.proofs.Sparing.{IsOfOrder, fixed_in_repo}

some_none : Some missing ≡ None → ⊥
some_none e = cc

-- an object without a fault is there
there_is_object : (d : List ℕ) (kind : ObjKind) (spot : Spot) → object_fault d kind (object_at kind spot) ≡ None → object_at kind spot ≡ None → ⊥
there_is_object d kind spot good none = some_none (sym (ap (object_fault d kind) none) ∙ good)

no_dir_closed : (e f : Slot) → e ≢ dir → under e f ≡ absent
no_dir_closed absent f h = refl
no_dir_closed dir f h = absurd (h refl)
no_dir_closed (file id) f h = refl
no_dir_closed (link text) f h = refl

-- below a file or a link nothing counts
closed : (n : Elements → Slot) (files : ℕ → Option Inode) (p : Elements) (kind : ObjKind) → (object_at kind (spot_of files (at n p)) ≡ None → ⊥) → IsClosed n p
closed n files p kind is x = elim (at_cases n p) [
  | inr none ↦ absurd (is (ap (λ e. object_at kind (spot_of files e)) none ∙ none_gone kind))
  | inl same ↦ no_dir_closed (n p) (n (x ∷ p)) (λ e. is (ap (λ f. object_at kind (spot_of files f)) (same ∙ e) ∙ none_folder kind))
]

-- the outcome with one name absent
module _ {v : View} {disk : Disk} (p : Elements) (left : Leaves v disk) (may : MayBe v p absent) where
  abbrev without : Elements → Slot
  without = set_at left.names p absent

  abbrev pub disk_without : Disk
  disk_without q = spot_of left.files (at without q)

  may_be : (q : Elements) → MayBe v q (without q)
  may_be q = elim (path_cases q p) [
    | inl e ↦ subst (λ r. MayBe v r (without r)) (sym e) (subst (MayBe v p) (sym (set_same left.names p absent p refl)) may)
    | inr ne ↦ subst (MayBe v q) (sym (set_other left.names p absent q ne)) (left.may_be q)
  ]

  pub leaves_without : Leaves v disk_without
  leaves_without = record { names = without; files = left.files; may_be = may_be; rows = left.rows; seen = λ q. refl }

  closed_without : IsClosed without p
  closed_without x = ap (λ e. under e (without (x ∷ p))) (set_same left.names p absent p refl)

  pub gone_without : disk_without p ≡ gone
  gone_without = ap (spot_of left.files) (elim (at_cases without p) [ inl same ↦ same ∙ set_same left.names p absent p refl | inr none ↦ none ])

  pub same_without : (kind : ObjKind) → (object_at kind (disk p) ≡ None → ⊥) → (q : Elements) → q ≢ p → disk_without q ≡ disk q
  same_without kind is q off =
      let shut = closed left.names left.files p kind (λ e. is (ap (object_at kind) (left.seen p) ∙ e)) in
      elim (at_off left.names without p (λ r ne below. sym (set_other left.names p absent r ne)) shut closed_without q) [
        | inl same ↦ sym (left.seen q ∙ ap (spot_of left.files) same)
        | inr here ↦ absurd (off here.0)
      ]

module _ {s : State} {v : View} (d : List ℕ) (kind : ObjKind) (opens : Opens s v) (may : MayBe v (object_path repo d kind) absent) (disk : Disk) (left : Leaves v disk) where
  abbrev place_path : Elements
  place_path = object_path repo d kind

  -- an object of a kept order is there
  ordered_object : (o : IsOfOrder disk place_path) → object_at o.place.kind (disk place_path) ≡ None → ⊥
  ordered_object o none = there_is_object o.place.digest o.place.kind (disk (object_path repo o.place.digest o.place.kind))
      (faultless (store repo disk) 0 (order (store repo disk) o.commit) ((opens.sound disk left).commits o.name o.commit o.kept).whole o.place o.within).1
      (ap (λ q. object_at o.place.kind (disk q)) (sym o.is) ∙ none)

  elsewhere_same : (o : IsOfOrder disk place_path) (q : Elements) → q ≢ place_path → disk_without place_path left may q ≡ disk q
  elsewhere_same o q off = same_without place_path left may o.place.kind (ordered_object o) q off

  kept_without : (o : IsOfOrder disk place_path) → Keeps (disk_without place_path left may) o.name o.commit
  kept_without o = record {
    row = o.kept.row;
    shown = ref_same disk (disk_without place_path left may) o.name (λ good. (elsewhere_same o (active o.name) (λ e. cc), λ text at. elsewhere_same o (deploy (text_dir o.name text)) (λ e. cc))) ∙ o.kept.shown;
    of_row = o.kept.of_row;
  }

  -- in the other outcome no place of the order has that name
  no_place : (o : IsOfOrder disk place_path) (pl : Place) → In (order (store repo (disk_without place_path left may)) o.commit) pl → object_path repo pl.digest pl.kind ≢ place_path
  no_place o pl h e = there_is_object pl.digest pl.kind (disk_without place_path left may (object_path repo pl.digest pl.kind))
      (faultless (store repo (disk_without place_path left may)) 0 (order (store repo (disk_without place_path left may)) o.commit)
      ((opens.sound (disk_without place_path left may) (leaves_without place_path left may)).commits o.name o.commit (kept_without o)).whole pl h).1
      (ap (λ q. object_at pl.kind (disk_without place_path left may q)) e ∙ ap (object_at pl.kind) (gone_without place_path left may) ∙ none_gone pl.kind)

  unfixed_of : IsOfOrder disk place_path → ⊥
  unfixed_of o = no_place o o.place
      (subst (λ (l : List Place). In l o.place) (order_same (store repo (disk_without place_path left may)) (store repo disk) o.commit
      (λ pl h. ap (object_at pl.kind) (sym (elsewhere_same o (object_path repo pl.digest pl.kind) (no_place o pl h))))) o.within)
      (sym o.is)

  pub absent_unfixed : Fixed disk place_path → ⊥
  absent_unfixed fixed = unfixed_of (fixed_in_repo fixed refl)
