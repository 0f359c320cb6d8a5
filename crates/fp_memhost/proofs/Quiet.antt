-- Views in which nothing stood earlier.
use Rattle.std.proofs.Common.{◌≡◌, ◌≢◌, ◌⊎◌, ◌≤◌, inl, inr, ℕ, List, [], ◌∷◌, true, false, Some, None, refl, sym, ◌∙◌, Contains}
use Rattle.std.proofs.lemmas.Bool.{false≢true}
use Rattle.fp_host.specs.Paths.{Elements, Slot, absent, dir, file, link, is_link_text}
use Rattle.fp_host.specs.View.{View, Inode, MayBe, IsTree}
use Rattle.fp_host.proofs.Settled.{none_in}
use Rattle.fp_memhost.specs.Start.{empty_view}

pub record Quiet (v : View) : Type 0 where
  pub earlier : (q : Elements) → v.earlier q ≡ []
  pub dirty : (id : ℕ) → v.dirty id ≡ false
  pub root : v.names [] ≡ dir
  pub above : (x : List ℕ) (up : Elements) → (v.names (x ∷ up) ≡ absent) ⊎ (v.names up ≡ dir)
  pub known : (p : Elements) (id : ℕ) → v.names p ≡ file id → v.files id ≢ None
  pub linked : (p : Elements) (text : List ℕ) → v.names p ≡ link text → is_link_text text ≡ true
  pub remembered : (x : List ℕ) (up : Elements) → (v.names (x ∷ up) ≡ absent) ⊎ Contains v.stood (x ∷ up, v.names (x ∷ up))
  pub bits : (id : ℕ) (f : Inode) → v.files id ≡ Some f → f.mode ≤ 4095

module _ (v : View) (quiet : Quiet v) where
  now : (q : Elements) (e : Slot) → MayBe v q e → e ≡ v.names q
  now q e (inl is) = is
  now q e (inr had) = absurd (none_in (v.earlier q) e (quiet.earlier q) had)

  pub quiet_tree : IsTree v
  quiet_tree = record {
    root = quiet.root;
    only_root = λ e m. now [] e m ∙ quiet.root;
    above = quiet.above;
    may_above = λ x up e m. elim (quiet.above x up) [ inl gone ↦ inl (now (x ∷ up) e m ∙ gone) | inr there ↦ inr (inl (sym there)) ];
    known = λ p id m. quiet.known p id (sym (now p (file id) m));
    known_dirty = λ id d. absurd (false≢true (sym (quiet.dirty id) ∙ d));
    linked = λ p text m. quiet.linked p text (sym (now p (link text) m));
    remembered = quiet.remembered;
    bits = quiet.bits;
  }

pub empty_tree : IsTree empty_view
empty_tree = quiet_tree empty_view (record {
  earlier = λ q. refl;
  dirty = λ id. refl;
  root = refl;
  above = λ x up. inl refl;
  known = no_file;
  linked = no_link;
  remembered = λ x up. inl refl;
  bits = λ id f is. absurd (cc is);
})
  where
    no_file : (p : Elements) (id : ℕ) → empty_view.names p ≡ file id → empty_view.files id ≢ None
    no_file [] id is = absurd (cc is)
    no_file (x ∷ up) id is = absurd (cc is)

    no_link : (p : Elements) (text : List ℕ) → empty_view.names p ≡ link text → is_link_text text ≡ true
    no_link [] text is = absurd (cc is)
    no_link (x ∷ up) text is = absurd (cc is)
