-- Names that stay as they are.
use Rattle.std.proofs.Common.{◌≡◌, ◌≢◌, inl, inr, ℕ, List, true, Option, Some, None, refl, sym, ◌∙◌, ap, subst, arith, Ok}
use Rattle.fp_host.specs.Paths.{Elements, Slot, absent, dir, file, link}
use Rattle.fp_host.specs.View.{View, Inode, IsTree}
use Rattle.fp_host.specs.Calls.{IsLeaf, IsDirty, syncs, Step}
use Rattle.fp_host.specs.Outcome.{Nothing, holding, spot_of, shows}
use Rattle.fp_host.specs.Frame.{Keeps, NoPath, Only, NoName}
use Rattle.fp_host.proofs.Settled.{at_tree}
use Rattle.fp_host.proofs.Above.{above_longer}
use Rattle.fp_small.specs.Clear.{IsWithin, GoneAt, AbsentAt}
use Rattle.fp_small.specs.Unsynced.{Unsynced}
use Rattle.fp_small.specs.Files.{KeepsFiles}
use Rattle.fp_small.proofs.Keeping.{files_kept}
use Rattle.fp_small.proofs.Replacement.{ancestors_above}
use Rattle.fp_name.specs.Hex.{is_digest}
use Rattle.fp_base.specs.declared.object.ObjKind.{ObjKind}
use Rattle.ost_model.specs.declared.object.Object.{Object}
use Rattle.ost_model.specs.declared.object.Object.TheVariants as objects
use Rattle.ost_model.specs.Objects.{object_path, object_at, store, Named}
use Rattle.ost_model.proofs.Stores.{one_name}
use Rattle.ost_store.specs.Stage.{Stages, IsOpen, IsStaged, IsHeld}
use Rattle.ost_store.specs.Stays.{Stays}
use Rattle.ost_store.specs.Place.{Places, WasPlaced, IsReadyAs}

-- ---- what stays

pub staged_stays : (q t : Elements) (object : Object) (u w : View) → Stages t object u w → (IsWithin q t → ⊥) → Stays q u w
staged_stays q t object u w s off = record {
  name = elim (s.keeps.names q) [
    | inl same ↦ same
    | inr put ↦ elim put [ inl here ↦ absurd (off (inl (sym here.0))) | inr above ↦ absurd (off (inr (ancestors_above t q above.0))) ]
  ];
  row = λ id f is some. s.files.rows id f some;
}

pub grown_stays : (q t : Elements) (u w : View) → Keeps Nothing NoName (Only t) u w → u.names q ≢ u.names t → Stays q u w
grown_stays q t u w k off = record {
  name = elim (k.names q) [ inl same ↦ same | inr none ↦ absurd none ];
  row = λ id f is some. k.files id f some (λ r here had. off (is ∙ sym had ∙ ap u.names here));
}

pub placed_stays : (q t p : Elements) (u w : View) → Places t p u w → (IsWithin q p → ⊥) → q ≢ t → Stays q u w
placed_stays q t p u w places off_p off_t = record {
  name = elim (places.keeps.names q) [
    | inl same ↦ same
    | inr put ↦ elim put [
      | inl here ↦ absurd (off_p (inl (sym here.0)))
      | inr other ↦ elim other [ inl gone ↦ absurd (off_t gone.0) | inr above ↦ absurd (off_p (inr (ancestors_above p q above.0))) ]
    ]
  ];
  row = λ id f is some. (files_kept places.keeps).rows id f some;
}

pub removed_stays : (q p : Elements) (u w : View) → Keeps (GoneAt p) (AbsentAt p) NoPath u w → q ≢ p → Stays q u w
removed_stays q p u w k off = record {
  name = elim (k.names q) [ inl same ↦ same | inr gone ↦ absurd (off gone.0) ];
  row = λ id f is some. (files_kept k).rows id f some;
}

-- ---- what that keeps

row_of : (o : Option Inode) → o ≢ None → (f : Inode) × (o ≡ Some f)
row_of None off = absurd (off refl)
row_of (Some f) off = (f, refl)

module _ (q : Elements) (u w : View) (s : Stays q u w) where
  pub held_stays : (object : Object) → IsHeld q object u → IsHeld q object w
  held_stays (objects.Meta bytes) h = record { id = h.id; name = s.name ∙ h.name; row = s.row h.id _ h.name h.row }
  held_stays (objects.File mode bytes) h = record { id = h.id; name = s.name ∙ h.name; row = s.row h.id _ h.name h.row }
  held_stays (objects.Link text) h = s.name ∙ h

  open_stays : {mode : ℕ} {bytes : List ℕ} → Unsynced u w → IsOpen q mode bytes u → IsOpen q mode bytes w
  open_stays un h = record { id = h.id; name = s.name ∙ h.name; row = s.row h.id _ h.name h.row; dirty = un.dirty h.id _ h.row ∙ h.dirty }

  pub staged_again : (object : Object) → Unsynced u w → IsStaged q object u → IsStaged q object w
  staged_again (objects.Meta bytes) un h = open_stays un h
  staged_again (objects.File mode bytes) un h = open_stays un h
  staged_again (objects.Link text) un h = s.name ∙ h

  module _ (tree : IsTree u) (tree' : IsTree w) where
    spot_same : (e : Slot) → u.names q ≡ e → spot_of w.files e ≡ spot_of u.files e
    spot_same absent is = refl
    spot_same dir is = refl
    spot_same (link text) is = refl
    spot_same (file id) is =
        let row = row_of (u.files id) (tree.known q id (inl (sym is))) in
        ap (holding id) (s.row id row.0 is row.1 ∙ sym row.1)

    pub shown_stays : shows w q ≡ shows u q
    shown_stays = ap (spot_of w.files) (at_tree w tree' q ∙ s.name) ∙ spot_same (u.names q) refl ∙ ap (spot_of u.files) (sym (at_tree u tree q))

    clean_slot : Unsynced u w → (e : Slot) → u.names q ≡ e → IsDirty w e → IsDirty u e
    clean_slot un absent is dirty = dirty
    clean_slot un dir is dirty = dirty
    clean_slot un (link text) is dirty = dirty
    clean_slot un (file id) is dirty =
        let row = row_of (u.files id) (tree.known q id (inl (sym is))) in
        sym (un.dirty id row.0 row.1) ∙ dirty

    pub ready_stays : (d : List ℕ) (kind : ObjKind) → Unsynced u w → IsReadyAs d kind q u → IsReadyAs d kind q w
    ready_stays d kind un ready = record {
      leaf = subst IsLeaf (sym s.name) ready.leaf;
      clean = λ dirty. ready.clean (clean_slot un (u.names q) refl (subst (IsDirty w) s.name dirty));
      named = subst (Named d kind) (sym shown_stays) ready.named;
    }

-- ---- an object that came to its name

-- what stood at t stands at p
pub placed_there : (t p : Elements) (u w : View) → Places t p u w → WasPlaced t p u w → IsTree u → IsTree w → shows w p ≡ shows u t
placed_there t p u w places was tree tree' =
    ap (spot_of w.files) (at_tree w tree' p ∙ was.name) ∙ moved (u.names t) refl ∙ ap (spot_of u.files) (sym (at_tree u tree t))
  where
    moved : (e : Slot) → u.names t ≡ e → spot_of w.files e ≡ spot_of u.files e
    moved absent is = refl
    moved dir is = refl
    moved (link text) is = refl
    moved (file id) is =
        let row = row_of (u.files id) (tree.known t id (inl (sym is))) in
        ap (holding id) ((files_kept places.keeps).rows id row.0 row.1 ∙ sym row.1)

pub placed_object : (root t : Elements) (d : List ℕ) (kind : ObjKind) (u w : View) → Places t (object_path root d kind) u w → WasPlaced t (object_path root d kind) u w
    → IsTree u → IsTree w → IsReadyAs d kind t u → Named d kind (shows w (object_path root d kind))
placed_object root t d kind u w places was tree tree' ready = subst (Named d kind) (sym (placed_there t (object_path root d kind) u w places was tree tree')) ready.named

-- ---- the other objects

pub off_object : (root : Elements) (d e : List ℕ) (k m : ObjKind) → is_digest d ≡ true → is_digest e ≡ true → ((e ≡ d) × (m ≡ k) → ⊥) → IsWithin (object_path root e m) (object_path root d k) → ⊥
off_object root d e k m of_d of_e off (inl same) =
    let one = one_name root d e k m of_d of_e same in
    off (sym one.0, sym one.1)
off_object root d e k m of_d of_e off (inr above) = omega (arith, above_longer (object_path root e m) (object_path root d k) above)

pub placed_others : (root t : Elements) (d e : List ℕ) (k m : ObjKind) (u w : View) → Places t (object_path root d k) u w → is_digest d ≡ true → is_digest e ≡ true
    → ((e ≡ d) × (m ≡ k) → ⊥) → object_path root e m ≢ t → IsTree u → IsTree w → store root (shows w) e m ≡ store root (shows u) e m
placed_others root t d e k m u w places of_d of_e off off_t tree tree' =
    ap (object_at m) (shown_stays (object_path root e m) u w (placed_stays (object_path root e m) t (object_path root d k) u w places (off_object root d e k m of_d of_e off) off_t) tree tree')

pub removed_others : (root : Elements) (d e : List ℕ) (k m : ObjKind) (u w : View) → Keeps (GoneAt (object_path root d k)) (AbsentAt (object_path root d k)) NoPath u w → is_digest d ≡ true → is_digest e ≡ true
    → ((e ≡ d) × (m ≡ k) → ⊥) → IsTree u → IsTree w → store root (shows w) e m ≡ store root (shows u) e m
removed_others root d e k m u w keeps of_d of_e off tree tree' =
    ap (object_at m) (shown_stays (object_path root e m) u w (removed_stays (object_path root e m) (object_path root d k) u w keeps (λ same. off_object root d e k m of_d of_e off (inl (sym same)))) tree tree')

-- ---- held

pub staged_held : (t : Elements) (object : Object) (v : View) → IsStaged t object v → IsHeld t object v
staged_held t (objects.Meta bytes) v h = record { id = h.id; name = h.name; row = h.row }
staged_held t (objects.File mode bytes) v h = record { id = h.id; name = h.name; row = h.row }
staged_held t (objects.Link text) v h = h

pub stays_on : {q : Elements} {u v w : View} → Stays q u v → Stays q v w → Stays q u w
stays_on first second = record { name = second.name ∙ first.name; row = λ id f is some. second.row id f (first.name ∙ is) (first.row id f is some) }

pub stays_same : {q : Elements} {v : View} → Stays q v v
stays_same = record { name = refl; row = λ id f is some. some }

-- where a name is the same and files stay, the same shows
pub same_shows : {u v : View} → IsTree u → IsTree v → KeepsFiles u v → (q : Elements) → v.names q ≡ u.names q → shows v q ≡ shows u q
same_shows {u = u} {v = v} tree next files q name = shown_stays q u v (record { name = name; row = λ id f is some. files.rows id f some }) tree next

-- a sync leaves each name
abbrev pub Synced : View → View → Type 0
Synced v w = Step syncs (Ok tt) v w

pub synced_stays : {v w : View} (q : Elements) → Synced v w → Stays q v w
synced_stays q step = record { name = ap (λ (x : View). x.names q) step.how.1; row = λ id f is some. ap (λ (x : View). x.files id) step.how.1 ∙ some }
