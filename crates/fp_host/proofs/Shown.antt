-- What a view shows where something stands.
use Rattle.std.proofs.Common.{refl, inl, ap, ◌≡◌, ◌∙◌, List, ℕ, Some, inr, ◌≢◌, ◌⊎◌, ◌∷◌}
use Rattle.fp_host.specs.View.{View, IsTree}
use Rattle.fp_host.specs.Outcome.{Leaves, shows, spot_of, holding, holds, points, gone, folder, Spot}
use Rattle.fp_host.specs.Paths.{Slot, Elements, file, link, absent}
use Rattle.fp_host.proofs.Settled.{at_tree}

-- what stands is what a stop may leave
pub now_left : (v : View) → Leaves v (shows v)
now_left v = record { names = v.names; files = v.files; may_be = λ q. inl refl; rows = λ id. inl refl; seen = λ q. refl }

pub shown : (v : View) (p : Elements) (e : Slot) → IsTree v → v.names p ≡ e → shows v p ≡ spot_of v.files e
shown v p e tree here = ap (spot_of v.files) (at_tree v tree p ∙ here)

pub held_file : (v : View) (t : Elements) (id mode : ℕ) (bytes : List ℕ) → IsTree v → v.names t ≡ file id → v.files id ≡ Some (record { mode = mode; bytes = bytes }) → shows v t ≡ holds id mode bytes
held_file v t id mode bytes tree name row = ap (spot_of v.files) (at_tree v tree t ∙ name) ∙ ap (holding id) row

pub held_link : (v : View) (t : Elements) (text : List ℕ) → IsTree v → v.names t ≡ link text → shows v t ≡ points text
held_link v t text tree name = ap (spot_of v.files) (at_tree v tree t ∙ name)

pub gone_cases : (spot : Spot) → (spot ≡ gone) ⊎ (spot ≢ gone)
gone_cases gone = inl refl
gone_cases folder = inr (λ same. cc same)
gone_cases (holds id mode bytes) = inr (λ same. cc same)
gone_cases (points text) = inr (λ same. cc same)

pub some_above : {v : View} → IsTree v → (x : List ℕ) (up : Elements) → v.names (x ∷ up) ≢ absent → v.names up ≢ absent
some_above tree x up some none = elim (tree.above x up) [ inl empty ↦ some empty | inr there ↦ absurd (cc (none, there)) ]
