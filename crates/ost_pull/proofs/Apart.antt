-- Work beside the objects of a store.
use Rattle.std.proofs.Common.{◌≡◌, ◌⊎◌, inl, inr, ℕ, List, true, None, Option, Some, refl, sym, ◌∙◌, ap, subst}
use Rattle.fp_host.specs.Paths.{Elements, Slot, absent, dir, file, link, IsAbove}
use Rattle.fp_host.specs.View.{View, Inode, IsTree}
use Rattle.fp_host.specs.Outcome.{Spot, gone, shows, spot_of, holding}
use Rattle.fp_host.specs.Moments.{Moments, Always}
use Rattle.fp_host.specs.Remote.{Holdings}
use Rattle.fp_host.proofs.Framed.{IsTold}
use Rattle.fp_host.proofs.Settled.{at_tree}
use Rattle.fp_host.proofs.Above.{above_on}
use Rattle.fp_host.proofs.Shown.{now_left}
use Rattle.fp_small.specs.Clear.{IsWithin}
use Rattle.fp_small.proofs.Making.{free_at}
use Rattle.fp_name.specs.Hex.{is_digest}
use Rattle.fp_base.specs.declared.object.ObjKind.{ObjKind}
use Rattle.ost_model.specs.Objects.{Have, object_path, object_at, store, supply, name_fault}
use Rattle.ost_model.specs.Stores.{objects_folder}
use Rattle.ost_model.specs.Remotes.{Supplies, remote}
use Rattle.ost_model.proofs.Stores.{objects_are_named}
use Rattle.ost_store.specs.Stays.{Stays}
use Rattle.ost_store.specs.Place.{LeavesStore}
use Rattle.ost_store.proofs.Staying.{shown_stays}
use Rattle.ost_store.proofs.ObjectPaths.{object_within, below_work, not_both}
use Rattle.ost_store.specs.ObjectNames.{IsAboveObject, AreOpen}
use Rattle.ost_pull.specs.Work.{WorksAt, WorksName, Works}
use Rattle.ost_pull.specs.Pulls.{IsApart}
use Rattle.ost_pull.proofs.Kept.{above_work}

-- ---- paths

above_folder : (root : Elements) (d : List ℕ) (kind : ObjKind) (q : Elements) → IsAbove q (object_path root d kind) → IsWithin (objects_folder root) q ⊎ IsAbove q (objects_folder root)
above_folder root d kind q (inl is) = inl (inr (subst (IsAbove (objects_folder root)) (sym is) (inl refl)))
above_folder root d kind q (inr (inl is)) = inl (inl is)
above_folder root d kind q (inr (inr higher)) = inr higher

-- ---- apart from the store

module _ (root t : Elements) (apart : IsApart root t) where
  pub off_object : (d : List ℕ) (kind : ObjKind) → IsWithin t (object_path root d kind) → ⊥
  off_object d kind within = apart.below (object_path root d kind) (object_within root d kind) within

  pub off_above : (q : Elements) → IsAboveObject root q → IsWithin t q → ⊥
  off_above q above within = elim (above_folder root above.digest above.kind q above.above) [
    | inl below ↦ apart.below q below within
    | inr higher ↦ apart.below (objects_folder root) (inl refl) (inr (elim within [
      | inl is ↦ subst (λ (p : Elements). IsAbove p (objects_folder root)) is higher
      | inr up ↦ above_on t q (objects_folder root) up higher
    ]))
  ]

  pub works_off : (q : Elements) (e : Slot) → IsWithin (objects_folder root) q → WorksName t q e → ⊥
  works_off q e below (inl name) = apart.below q below (below_work t name.digest name.kind q name.at)
  works_off q e below (inr (inl above)) = elim (above_work t above.0.digest above.0.kind q above.0.above) [ inl within ↦ apart.below q below within | inr up ↦ apart.above q below up ]
  works_off q e below (inr (inr away)) = apart.below q below away.0

  pub spot_off : (q : Elements) (spot : Spot) → IsWithin (objects_folder root) q → WorksAt t q spot → ⊥
  spot_off q spot below (inl name) = apart.below q below (below_work t name.digest name.kind q name.at)
  spot_off q spot below (inr (inl above)) = elim (above_work t above.0.digest above.0.kind q above.0.above) [ inl within ↦ apart.below q below within | inr up ↦ apart.above q below up ]
  spot_off q spot below (inr (inr away)) = apart.below q below away.0

  module _ {u w : View} (works : Works t u w) where
    pub works_stays : (q : Elements) → IsWithin (objects_folder root) q → Stays q u w
    works_stays q below = record {
      name = elim (works.keeps.names q) [ inl same ↦ same | inr put ↦ absurd (works_off q _ below put) ];
      row = λ id f is some. works.files.rows id f some;
    }

    pub works_object : (d : List ℕ) (kind : ObjKind) → IsTree u → IsTree w → store root (shows w) d kind ≡ store root (shows u) d kind
    works_object d kind tree tree' = ap (object_at kind) (shown_stays (object_path root d kind) u w (works_stays (object_path root d kind) (object_within root d kind)) tree tree')

    pub works_store : IsTree u → IsTree w → store root (shows w) ≡ store root (shows u)
    works_store tree tree' = λ i d kind. works_object d kind tree tree' i

  -- the objects that are given stay the same
  pub works_supplies : {a b : Option Moments} {url : Option (List ℕ)} {holds holds' : Option Holdings} {have : Have} → IsTold a → IsTold b → Always (Works t) a b → holds' ≡ holds → Supplies root url a holds have → Supplies root url b holds' have
  works_supplies {url = url} told told' works same s =
      let n = works.told s.moments s.told_is in
      record {
        moments = n.0;
        held = s.held;
        told_is = n.1;
        holdings_are = same ∙ s.holdings_are;
        is = s.is ∙ ap (λ (own : Have). supply own (remote s.held url)) (sym (works_store n.3 (told s.moments s.told_is) (told' n.0 n.1)));
      }

-- folders above the objects of the work folder stay free
pub works_open : {t : Elements} {u w : View} → Works t u w → AreOpen t u → AreOpen t w
works_open {t = t} {u = u} {w = w} works open_before = record {
  free = λ q above. elim (works.keeps.names q) [
    | inl same ↦ free_at u w q same (open_before.free q above)
    | inr put ↦ elim put [
      | inl name ↦ absurd (not_both t q name above)
      | inr other ↦ elim other [ inl made ↦ inr made.1 | inr away ↦ inl away.1 ]
    ]
  ];
}

-- ---- what a true store lacks

spot_absent : (v : View) (q : Elements) → IsTree v → spot_of v.files (v.names q) ≡ gone → v.names q ≡ absent
spot_absent v q tree is = go (v.names q) refl is
  where
    no_row : (id : ℕ) (row : Option Inode) → v.files id ≡ row → v.names q ≡ file id → holding id row ≡ gone → ⊥
    no_row id None none at held = tree.known q id (inl (sym at)) none
    no_row id (Some f) some at held = cc held

    go : (e : Slot) → v.names q ≡ e → spot_of v.files e ≡ gone → v.names q ≡ absent
    go absent at held = at
    go dir at held = absurd (cc held)
    go (link text) at held = absurd (cc held)
    go (file id) at held = absurd (no_row id (v.files id) refl at held)

pub lacking_name : (root : Elements) (d : List ℕ) (kind : ObjKind) (v : View) → IsTree v → LeavesStore root v → is_digest d ≡ true → store root (shows v) d kind ≡ None → v.names (object_path root d kind) ≡ absent
lacking_name root d kind v tree true_names good none =
    elim (objects_are_named root (shows v) (true_names.each (shows v) (now_left v)) d kind good) [
      | inl away ↦ spot_absent v (object_path root d kind) tree (ap (spot_of v.files) (sym (at_tree v tree (object_path root d kind))) ∙ away)
      | inr named ↦ absurd (cc (sym (ap (name_fault d kind) none) ∙ named.good))
    ]
