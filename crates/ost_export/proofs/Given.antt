-- What an object that is ready may give, and what a staged object is read as.
use Rattle.std.proofs.Common.{◌≡◌, inl, inr, ℕ, List, Option, Some, sym, subst}
use Rattle.fp_host.specs.Paths.{Elements, Slot, absent, dir, file, link}
use Rattle.fp_host.specs.View.{View, Inode, IsTree}
use Rattle.fp_host.specs.Calls.{IsLeaf, IsDirty}
use Rattle.fp_host.specs.Outcome.{Spot, MayHold, Gives, spot_of, holding, shows}
use Rattle.fp_host.proofs.Settled.{at_tree}
use Rattle.fp_base.specs.declared.object.ObjKind.{ObjKind}
use Rattle.ost_model.specs.declared.object.Object.{Object}
use Rattle.ost_model.specs.Objects.{object_at}
use Rattle.ost_store.specs.Place.{IsReadyAs}
use Rattle.ost_export.specs.Placing.{IsTheObject}

-- ---- what is given

module _ {u : View} (d : List ℕ) (kind : ObjKind) (object : Object) (t : Elements) (tree : IsTree u) (ready : IsReadyAs d kind t u) (shown : object_at kind (shows u t) ≡ Some object) where
  here : IsTheObject d kind object (spot_of u.files (u.names t))
  here = subst (λ (e : Slot). IsTheObject d kind object (spot_of u.files e)) (at_tree u tree t) (record { named = ready.named; is = shown })

  by_slot : (e : Slot) (files : ℕ → Option Inode) → ((id : ℕ) → MayHold u id (files id)) → IsLeaf e → (IsDirty u e → ⊥) → IsTheObject d kind object (spot_of u.files e) → IsTheObject d kind object (spot_of files e)
  by_slot absent files rows leaf clean it = absurd leaf
  by_slot dir files rows leaf clean it = absurd leaf
  by_slot (link text) files rows leaf clean it = it
  by_slot (file id) files rows leaf clean it = elim (rows id) [
    | inl is ↦ subst (λ (o : Option Inode). IsTheObject d kind object (holding id o)) (sym is) it
    | inr any ↦ absurd (clean any.0)
  ]

  -- what it may give is the object
  pub given : (p q : Elements) (spot : Spot) → Gives u p (u.names t) q spot → IsTheObject d kind object spot
  given p q spot g = subst (IsTheObject d kind object) (sym g.1.2) (by_slot (u.names t) g.1.0 g.1.1 ready.leaf ready.clean here)
