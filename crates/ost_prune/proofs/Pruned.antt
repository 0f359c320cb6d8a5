-- A store that is pruned.
use Rattle.std.proofs.Common.{◌≡◌, inl, inr, ℕ, List, length, true, Option, sym, ◌∙◌, ap, subst}
use Rattle.std.specs.Prelude.{◌↔◌, is_some}
use Rattle.std.proofs.lemmas.Bool.{both_ways}
use Rattle.fp_host.specs.Paths.{Elements, Slot, absent}
use Rattle.fp_host.specs.Outcome.{Disk, Leaves, gone, spot_of, shows}
use Rattle.fp_host.proofs.Settled.{at_tree}
use Rattle.fp_host.specs.View.{View, IsTree}
use Rattle.fp_host.specs.Frame.{Keeps, Frame, AtEnd, Unchanged, NoPath}
use Rattle.fp_host.specs.Moments.{Moments, Always}
use Rattle.fp_host.proofs.Framed.{IsTold, keeps_same, keeps_to}
use Rattle.fp_host.proofs.Goes.{begins, goes_on}
use Rattle.fp_host.proofs.Ending.{goes_known, ends_both, ends_looks}
use Rattle.fp_base.specs.declared.object.ObjKind.{ObjKind}
use Rattle.fp_name.specs.Hex.{is_digest}
use Rattle.ost_model.specs.Objects.{object_at, store}
use Rattle.ost_model.specs.Used.{IsUsed}
use Rattle.ost_model.proofs.Stores.{one_name}
use Rattle.ost_store.proofs.Staying.{shown_stays}
use Rattle.ost_prune.proofs.Found.{none_gone}
use Rattle.ost_prune.specs.Prune.{IsUnused, IsUnusedName, Prunes, ListsUnused, WasPruned}
use Rattle.ost_store.specs.Names.{name_in}
use Rattle.ost_prune.specs.Removing.{GoneAmong, AbsentAmong, AreGone, CanRemoveAll}

-- nothing was changed
pub looked : {a b : Option Moments} {root : Elements} {keep : List (List ℕ)} → IsTold a → Unchanged a b → Always (Prunes root keep) a b
looked told still = begins told still.goes (λ u w t same. record { keeps = keeps_same same }) (λ u w t same q. record { keeps = keeps_same same })

-- the objects that were found are the unused ones
pub prunes : {root : Elements} {keep : List (List ℕ)} {objects : List (List ℕ × ObjKind)} {u v w : View} → v ≡ u → ListsUnused root keep u objects → Keeps (GoneAmong root objects) (AbsentAmong root objects) NoPath v w → Prunes root keep u w
prunes {root = root} {keep = keep} {objects = objects} {w = w} same lists keeps = record {
  keeps = keeps_to
      (λ q spot h. (record { object = h.0.object; unused = (lists.each h.0.object).0 h.0.among; name = h.0.name }, h.1))
      (λ q e h. (record { object = h.0.object; unused = (lists.each h.0.object).0 h.0.among; name = h.0.name }, h.1))
      (λ q none. none) (λ q id none h. none)
      (subst (λ (x : View). Keeps (GoneAmong root objects) (AbsentAmong root objects) NoPath x w) same keeps);
}

pub pruning : {a b c : Option Moments} {root : Elements} {keep : List (List ℕ)} {objects : List (List ℕ × ObjKind)} → IsTold a → IsTold b → Unchanged a b → AtEnd (λ u w. ListsUnused root keep u objects) a b
    → Frame (GoneAmong root objects) (AbsentAmong root objects) NoPath b c → Always (Prunes root keep) a c
pruning told between still lists frame = goes_on between (goes_known (looked told still) (ends_both (ends_looks told still) lists)) frame.goes
    (λ u v w t r q s. prunes q.1.0.0 q.1.1 s) (λ u v w t r q s e. prunes q.1.0.0 q.1.1 e)

pub can_remove_all : {root : Elements} {keep : List (List ℕ)} {objects : List (List ℕ × ObjKind)} {u v : View} → v ≡ u → ListsUnused root keep u objects → CanRemoveAll root objects v
can_remove_all {root = root} {objects = objects} same lists = subst (CanRemoveAll root objects) (sym same) (record {
  digits = λ o has. ((lists.each o).0 has).digits;
  there = λ o has. record { there = ((lists.each o).0 has).there };
  ascending = lists.ascending;
})

pub was_pruned : {root : Elements} {keep : List (List ℕ)} {objects : List (List ℕ × ObjKind)} {number : ℕ} {u w : View} → ListsUnused root keep u objects → AreGone root objects w → number ≡ length objects → WasPruned root keep number u w
was_pruned {objects = objects} lists away count = record {
  objects = objects;
  all = lists;
  count = count;
  gone = λ o is. away.gone o ((lists.each o).1 is);
}

-- ---- what stays

module _ {root : Elements} {keep : List (List ℕ)} {u w : View} (object : List ℕ × ObjKind) (good : is_digest object.0 ≡ true) (pruned : Prunes root keep u w) where
  -- the name of an unused object is that of this one
  unused_here : IsUnusedName root keep u (name_in root object) → IsUnused root keep u object
  unused_here n =
      let one = one_name root n.object.0 object.0 n.object.1 object.1 n.unused.digits good (sym n.name) in
      let same : n.object ≡ object = (λ i. (one.0 i, one.1 i)) in
      subst (IsUnused root keep u) same n.unused

  pub used_name : IsUsed (store root (shows u)) keep object → w.names (name_in root object) ≡ u.names (name_in root object)
  used_name used = elim (pruned.keeps.names (name_in root object)) [ inl same ↦ same | inr put ↦ absurd ((unused_here put.0).unused used) ]

  pub used_stop : IsUsed (store root (shows u)) keep object → (disk : Disk) → Leaves w disk → (before : Disk) × Leaves u before × (disk (name_in root object) ≡ before (name_in root object))
  used_stop used disk left =
      let b = pruned.keeps.follows.from disk left in
      (b.0, b.1, elim (b.2 (name_in root object)) [ inl same ↦ same | inr given ↦ absurd ((unused_here given.0).unused used) ])

  module _ (tree : IsTree u) (tree' : IsTree w) where
    -- where the name is the same, so is the object
    same_object : w.names (name_in root object) ≡ u.names (name_in root object) → is_some (store root (shows w) object.0 object.1) ≡ is_some (store root (shows u) object.0 object.1)
    same_object name = ap (λ s. is_some (object_at object.1 s)) (shown_stays (name_in root object) u w (record { name = name; row = λ id f at row. pruned.keeps.files id f row (λ q none at. none) }) tree tree')

    no_object : w.names (name_in root object) ≡ absent → is_some (store root (shows w) object.0 object.1) ≡ true → ⊥
    no_object none there = both_ways (is_some (object_at object.1 gone)) (none_gone object.1) (sym (ap (λ (e : Slot). is_some (object_at object.1 (spot_of w.files e))) (at_tree w tree' (name_in root object) ∙ none)) ∙ there)

    pub left_exactly : {number : ℕ} → WasPruned root keep number u w → (is_some (store root (shows w) object.0 object.1) ≡ true) ↔ ((is_some (store root (shows u) object.0 object.1) ≡ true) × (IsUnused root keep u object → ⊥))
    left_exactly was = (
      λ there. elim (pruned.keeps.names (name_in root object)) [
        | inl same ↦ (sym (same_object same) ∙ there, λ unused. no_object (was.gone object unused) there)
        | inr put ↦ absurd (no_object put.1 there)
      ],
      λ both. elim (pruned.keeps.names (name_in root object)) [
        | inl same ↦ same_object same ∙ both.0
        | inr put ↦ absurd (both.1 (unused_here put.0))
      ],
    )
