-- How many types stand in a type: what a recursion over types goes down by.
use Rattle.std.proofs.Common.{◌≡◌, ℕ, zero, suc, ◌+◌, ◌-◌, ◌<◌, ◌≤◌, List, [], ◌∷◌, length, get_or, refl, sym, ap, ◌∙◌, arith}
use Rattle.gv_value.specs.Shape.{Shape, basic, variant, array, maybe, tuple, entry, Shapes, no_shapes, shape, all_shapes, nests_within}
use Rattle.gv_value.specs.Views.{shape_of, shapes_of}
use Rattle.gv_value.specs.declared.types.GvType.{GvType}

abbrev mutual
  pub nodes : Shape → ℕ
  nodes (basic b) = 1
  nodes variant = 1
  nodes (array t) = nodes t + 1
  nodes (maybe t) = nodes t + 1
  nodes (tuple ts) = all_nodes ts + 1
  nodes (entry k v) = nodes k + nodes v + 1

  pub all_nodes : Shapes → ℕ
  all_nodes no_shapes = 0
  all_nodes (shape t ts) = nodes t + all_nodes ts + 1

pub member_nodes : (ts : List GvType) (i : ℕ) (d : GvType) → i < length ts → nodes (shape_of (get_or ts i d)) < all_nodes (shapes_of ts)
member_nodes [] i d h = absurd (omega arith)
member_nodes (t ∷ ts) zero d h = omega arith
member_nodes (t ∷ ts) (suc i) d h = omega (arith, member_nodes ts i d (omega arith))

pub nests-tuple : (room : ℕ) (ts : Shapes) → (room ≡ 0 → ⊥) → nests_within room (tuple ts) ≡ all_shapes (nests_within (room - 1)) ts
nests-tuple zero ts h = absurd (h refl)
nests-tuple (suc n) ts h = let less : n ≡ suc n - 1 = omega arith in ap (λ (m : ℕ). all_shapes (nests_within m) ts) less
