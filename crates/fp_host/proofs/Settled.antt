-- A view whose every stop leaves what stands.
use Rattle.std.proofs.Common.{◌≡◌, inl, inr, ℕ, List, [], ◌∷◌, refl, sym, ◌∙◌, ap, subst, Contains, arith}
use Rattle.std.proofs.lemmas.Bool.{false≢true}
use Rattle.fp_host.specs.Paths.{Elements, Slot, under, at}
use Rattle.fp_host.specs.View.{View, IsTree}
use Rattle.fp_host.specs.Outcome.{Disk, spot_of, Leaves, IsSettled}
use Rattle.fp_host.proofs.Separate.{under_absent}

pub none_in : (l : List Slot) (e : Slot) → l ≡ [] → Contains l e → ⊥
none_in l e is c = absurd (omega (arith, (subst (λ (k : List Slot). Contains k e) is c).1))

-- in a tree each present entry counts
pub at_tree : (v : View) → IsTree v → (q : Elements) → at v.names q ≡ v.names q
at_tree v tree [] = refl
at_tree v tree (x ∷ up) = elim (tree.above x up) [
  | inl none ↦ ap (λ (e : Slot). under (at v.names up) e) none ∙ under_absent (at v.names up) ∙ sym none
  | inr above ↦ ap (λ (e : Slot). under e (v.names (x ∷ up))) (at_tree v tree up ∙ above)
]

pub settled_disk : (v : View) → IsTree v → IsSettled v → (disk : Disk) → Leaves v disk → (q : Elements) → disk q ≡ spot_of v.files (v.names q)
settled_disk v tree settled disk left q =
    let names : (p : Elements) → left.names p ≡ v.names p = λ p. elim (left.may_be p) [ inl is ↦ is | inr had ↦ absurd (none_in (v.earlier p) (left.names p) (settled.earlier p) had) ] in
    let files : (id : ℕ) → left.files id ≡ v.files id = λ id. elim (left.rows id) [ inl is ↦ is | inr any ↦ absurd (false≢true (sym (settled.dirty id) ∙ any.0)) ] in
    left.seen q ∙ (λ i. spot_of (λ id. files id i) (at (λ p. names p i) q)) ∙ ap (spot_of v.files) (at_tree v tree q)
