-- Files that are new and have bytes, which come to their names.
use Rattle.std.proofs.Common.{◌≡◌, ◌⊎◌, inl, inr, ℕ, List, [], Option, Some, None, refl, sym, ◌∙◌, ap, subst, Contains}
use Rattle.fp_host.specs.Paths.{Elements, Slot, absent, file}
use Rattle.fp_host.specs.View.{View, Inode}
use Rattle.fp_host.specs.Frame.{Only}
use Rattle.fp_small.specs.Files.{MakesFile}
use Rattle.fp_small.specs.Shares.{Shares}
use Rattle.ost_store.specs.Gathers.{Gathers}
use Rattle.ost_store.specs.Place.{Places, WasPlaced}

-- the one file that was made stands there
pub gathers_made : {p : Elements} {bytes : List ℕ} {u w : View} → MakesFile p bytes u w → Gathers (Only p) u w
gathers_made {p = p} made = record { each = λ id f new some. inr (p, refl, made.name ∙ ap file (sym (made.only id f new some))) }

-- and not where nothing stands
pub gathers_nowhere : {p q : Elements} {bytes : List ℕ} {u w : View} → MakesFile p bytes u w → w.names q ≡ absent → Gathers (Only q) u w → bytes ≡ []
gathers_nowhere {bytes = bytes} {w = w} made none gathers = elim (gathers.each made.id (record { mode = 420; bytes = bytes }) made.free made.row) [
  | inl empty ↦ empty
  | inr put ↦ absurd (cc (sym put.2 ∙ ap w.names put.1 ∙ none))
]

-- what gathered at t comes to p
module _ {t p : Elements} {u v w : View} (gathers : Gathers (Only t) u v) (places : Places t p v w) (was : WasPlaced t p v w) where
  came : (id : ℕ) (f : Inode) (row : Option Inode) → v.files id ≡ row → u.files id ≡ None → w.files id ≡ Some f → (f.bytes ≡ []) ⊎ ((q : Elements) × (q ≡ p) × Contains w.stood (q, file id))
  came id f None is new some = inl (places.keeps.empty (λ q no. no) id f is some)
  came id f (Some g) is new some =
      let same : Some g ≡ Some f = sym (places.keeps.files id g is (λ q none held. none)) ∙ some in
      let e : g ≡ f = cc same in
      elim (gathers.each id g new is) [
        | inl empty ↦ inl (ap (λ (x : Inode). x.bytes) (sym e) ∙ empty)
        | inr put ↦ inr (p, refl, subst (λ (s : Slot). Contains w.stood (p, s)) (ap v.names (sym put.1) ∙ put.2) was.stood)
      ]

  pub gathers_placed : Shares (Only p) u w
  gathers_placed = record { each = λ id f new some. came id f (v.files id) refl new some }
