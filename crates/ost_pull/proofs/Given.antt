-- What an object that is ready may give.
use Rattle.std.proofs.Common.{◌≡◌, inl, inr, ℕ, List, Option, sym, subst}
use Rattle.fp_host.specs.Paths.{Elements, Slot, absent, dir, file, link, at}
use Rattle.fp_host.specs.View.{View, Inode}
use Rattle.fp_host.specs.Calls.{IsLeaf, IsDirty}
use Rattle.fp_host.specs.Outcome.{Spot, MayHold, Gives, spot_of, holding}
use Rattle.fp_host.proofs.Separate.{at_cases}
use Rattle.fp_base.specs.declared.object.ObjKind.{ObjKind}
use Rattle.ost_model.specs.Objects.{Named}
use Rattle.ost_model.proofs.Spots.{not_gone}
use Rattle.ost_store.specs.Place.{IsReadyAs}

module _ {u : View} (d : List ℕ) (kind : ObjKind) (t : Elements) (ready : IsReadyAs d kind t u) where
  stands : at u.names t ≡ u.names t
  stands = elim (at_cases u.names t) [ inl same ↦ same | inr none ↦ absurd (not_gone d kind (subst (λ (e : Slot). Named d kind (spot_of u.files e)) none ready.named)) ]

  by_slot : (e : Slot) (files : ℕ → Option Inode) → ((id : ℕ) → MayHold u id (files id)) → IsLeaf e → (IsDirty u e → ⊥) → Named d kind (spot_of u.files e) → Named d kind (spot_of files e)
  by_slot absent files rows leaf clean named = absurd leaf
  by_slot dir files rows leaf clean named = absurd leaf
  by_slot (link text) files rows leaf clean named = named
  by_slot (file id) files rows leaf clean named = elim (rows id) [
    | inl is ↦ subst (λ (o : Option Inode). Named d kind (holding id o)) (sym is) named
    | inr any ↦ absurd (clean any.0)
  ]

  -- what it may give is the object
  pub named_given : (p q : Elements) (spot : Spot) → Gives u p (u.names t) q spot → Named d kind spot
  named_given p q spot g = subst (Named d kind) (sym g.1.2) (by_slot (u.names t) g.1.0 g.1.1 ready.leaf ready.clean (subst (λ (e : Slot). Named d kind (spot_of u.files e)) stands ready.named))
