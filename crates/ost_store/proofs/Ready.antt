-- A staged object is ready to be placed after a sync.
use Rattle.std.proofs.Common.{◌≡◌, inl, ℕ, List, true, Some, None, sym, ◌∙◌, ap, subst}
use Rattle.std.proofs.lemmas.Bool.{false≢true}
use Rattle.fp_host.specs.Paths.{Elements, Slot, absent, dir, file, link, is_link_text}
use Rattle.fp_host.specs.View.{View, IsTree}
use Rattle.fp_host.specs.Calls.{syncs, done, IsLeaf, IsDirty}
use Rattle.fp_host.specs.Outcome.{holds, points, spot_of, holding}
use Rattle.fp_host.proofs.Settled.{at_tree}
use Rattle.fp_base.specs.declared.object.ObjKind.{ObjKind}
use Rattle.ost_model.specs.declared.object.Object.{Object}
use Rattle.ost_model.specs.declared.object.Object.TheVariants as objects
use Rattle.ost_model.specs.Objects.{name_fault, Named}
use Rattle.ost_model.proofs.Faults.{named_file, named_meta, named_link}
use Rattle.ost_store.specs.Stage.{IsFileOf, IsHeld}
use Rattle.ost_store.specs.Place.{IsReadyAs}

-- ---- after a sync

module _ (t : Elements) (d : List ℕ) (kind : ObjKind) (v w : View) (synced : w ≡ done syncs v) (tree : IsTree w) where
  same_name : w.names t ≡ v.names t
  same_name = ap (λ (x : View). x.names t) synced

  clean_slot : (e : Slot) → IsDirty w e → ⊥
  clean_slot absent dirty = dirty
  clean_slot dir dirty = dirty
  clean_slot (link text) dirty = dirty
  clean_slot (file id) dirty = false≢true (sym (ap (λ (x : View). x.dirty id) synced) ∙ dirty)

  ready_file : {mode : ℕ} {bytes : List ℕ} → IsFileOf t mode bytes v → ((id : ℕ) → Named d kind (holds id mode bytes)) → IsReadyAs d kind t w
  ready_file {mode = mode} {bytes = bytes} there named =
      let name : w.names t ≡ file there.id = same_name ∙ there.name in
      let row : w.files there.id ≡ Some (record { mode = mode; bytes = bytes }) = ap (λ (x : View). x.files there.id) synced ∙ there.row in
      record {
        leaf = subst IsLeaf (sym name) tt;
        clean = clean_slot (w.names t);
        named = subst (Named d kind) (sym (ap (spot_of w.files) (at_tree w tree t ∙ name) ∙ ap (holding there.id) row)) (named there.id);
      }

  ready_link : {text : List ℕ} → v.names t ≡ link text → (is_link_text text ≡ true → Named d kind (points text)) → IsReadyAs d kind t w
  ready_link {text = text} there named =
      let name : w.names t ≡ link text = same_name ∙ there in
      record {
        leaf = subst IsLeaf (sym name) tt;
        clean = clean_slot (w.names t);
        named = subst (Named d kind) (sym (ap (spot_of w.files) (at_tree w tree t ∙ name))) (named (tree.linked t text (inl (sym name))));
      }

pub staged_ready : (t : Elements) (object : Object) (d : List ℕ) (kind : ObjKind) (v w : View) → IsHeld t object v → w ≡ done syncs v → IsTree w → name_fault d kind (Some object) ≡ None → IsReadyAs d kind t w
staged_ready t (objects.Meta bytes) d kind v w there synced tree good = ready_file t d kind v w synced tree there (λ id. named_meta d kind id bytes good)
staged_ready t (objects.File mode bytes) d kind v w there synced tree good = ready_file t d kind v w synced tree there (λ id. named_file d kind id mode bytes good)
staged_ready t (objects.Link text) d kind v w there synced tree good = ready_link t d kind v w synced tree there (λ linked. named_link d kind text linked good)
