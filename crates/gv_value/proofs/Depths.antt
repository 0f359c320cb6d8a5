-- The bound on depth in the relation bounds the depth, and nothing else.
use Rattle.std.proofs.Common.{◌≡◌, ℕ, zero, suc, ◌+◌, ◌<◌, ◌≤◌, max, List, [], ◌∷◌, arith}
use Rattle.gv_value.specs.Shape.{Shape, Shapes, no_shapes, shape}
use Rattle.gv_value.specs.Tree.{Content, Tree, Trees, no_trees, tree}
use Rattle.gv_value.specs.Spelled.{AllSpelled, EachSpelled, two_shapes, two_trees, SpelledWithin}
use Rattle.gv_value.specs.Exact.{depth, greatest_depth, BoundsDepth}

abbrev Bounds : ℕ → Type 0
Bounds n = (m : ℕ) (t : Shape) (v : Tree) (bytes : List ℕ) → SpelledWithin n t v bytes → (depth v ≤ n) × (depth v ≤ m → SpelledWithin m t v bytes)

all_bounded : (n m : ℕ) → Bounds n → (t : Shape) (vs : Trees) (cs : List (List ℕ)) → AllSpelled (SpelledWithin n t) vs cs →
    (greatest_depth vs ≤ n) × (greatest_depth vs ≤ m → AllSpelled (SpelledWithin m t) vs cs)
all_bounded n m bounds t no_trees [] h = (omega arith, λ le. tt)
all_bounded n m bounds t (tree v vs) (c ∷ cs) h =
    let one = bounds m t v c h.0 in
    let more = all_bounded n m bounds t vs cs h.1 in
    (omega (arith, one.0, more.0), λ le. (one.1 (omega (arith, le)), more.1 (omega (arith, le))))
all_bounded n m bounds t no_trees (c ∷ cs) h = absurd h
all_bounded n m bounds t (tree v vs) [] h = absurd h

each_bounded : (n m : ℕ) → Bounds n → (ts : Shapes) (vs : Trees) (cs : List (List ℕ)) → EachSpelled (SpelledWithin n) ts vs cs →
    (greatest_depth vs ≤ n) × (greatest_depth vs ≤ m → EachSpelled (SpelledWithin m) ts vs cs)
each_bounded n m bounds no_shapes no_trees [] h = (omega arith, λ le. tt)
each_bounded n m bounds (shape t ts) (tree v vs) (c ∷ cs) h =
    let one = bounds m t v c h.0 in
    let more = each_bounded n m bounds ts vs cs h.1 in
    (omega (arith, one.0, more.0), λ le. (one.1 (omega (arith, le)), more.1 (omega (arith, le))))
each_bounded n m bounds no_shapes no_trees (c ∷ cs) h = absurd h
each_bounded n m bounds no_shapes (tree v vs) cs h = absurd h
each_bounded n m bounds (shape t ts) no_trees cs h = absurd h
each_bounded n m bounds (shape t ts) (tree v vs) [] h = absurd h

-- what holds one deeper, for each room in which there is place for one more
with_room : (P : ℕ → Type 0) (d m : ℕ) → ((k : ℕ) → d ≤ k → P (suc k)) → d + 1 ≤ m → P m
with_room P d zero h le = absurd (omega arith)
with_room P d (suc k) h le = h k (omega arith)

pub bounds_depth : BoundsDepth
bounds_depth n m (Shape.basic b) (Tree.leaf c content) bytes h = (omega arith, λ le. h)
bounds_depth (suc n) m Shape.variant (Tree.variant t v) bytes h =
    let bounds : Bounds n = λ k u w xs. bounds_depth n k u w xs in
    let one = bounds m t v h.0 h.1 in (
      omega (arith, one.0),
      with_room (λ k. SpelledWithin k Shape.variant (Tree.variant t v) bytes) (depth v) m
          (λ k le. (h.0, (bounds k t v h.0 h.1).1 le, h.2)),
    )
bounds_depth (suc n) m (Shape.array t) (Tree.array vs) bytes h =
    let bounds : Bounds n = λ k u w xs. bounds_depth n k u w xs in
    let all = all_bounded n m bounds t vs h.0 h.1 in (
      omega (arith, all.0),
      with_room (λ k. SpelledWithin k (Shape.array t) (Tree.array vs) bytes) (greatest_depth vs) m
          (λ k le. (h.0, (all_bounded n k bounds t vs h.0 h.1).1 le, h.2)),
    )
bounds_depth (suc n) m (Shape.maybe t) Tree.nothing bytes h =
    (omega arith, with_room (λ k. SpelledWithin k (Shape.maybe t) Tree.nothing bytes) 0 m (λ k le. h))
bounds_depth (suc n) m (Shape.maybe t) (Tree.just v) bytes h =
    let bounds : Bounds n = λ k u w xs. bounds_depth n k u w xs in
    let one = bounds m t v h.0 h.1 in (
      omega (arith, one.0),
      with_room (λ k. SpelledWithin k (Shape.maybe t) (Tree.just v) bytes) (depth v) m
          (λ k le. (h.0, (bounds k t v h.0 h.1).1 le, h.2)),
    )
bounds_depth (suc n) m (Shape.tuple ts) (Tree.tuple vs) bytes h =
    let bounds : Bounds n = λ k u w xs. bounds_depth n k u w xs in
    let each = each_bounded n m bounds ts vs h.0 h.1 in (
      omega (arith, each.0),
      with_room (λ k. SpelledWithin k (Shape.tuple ts) (Tree.tuple vs) bytes) (greatest_depth vs) m
          (λ k le. (h.0, (each_bounded n k bounds ts vs h.0 h.1).1 le, h.2)),
    )
bounds_depth (suc n) m (Shape.entry k w) (Tree.entry a b) bytes h =
    let bounds : Bounds n = λ i u x xs. bounds_depth n i u x xs in
    let each = each_bounded n m bounds (two_shapes k w) (two_trees a b) h.0 h.1 in
    let same : greatest_depth (two_trees a b) ≡ max (depth a) (depth b) = omega arith in (
      omega (arith, each.0),
      with_room (λ i. SpelledWithin i (Shape.entry k w) (Tree.entry a b) bytes) (max (depth a) (depth b)) m
          (λ i le. (h.0, (each_bounded n i bounds (two_shapes k w) (two_trees a b) h.0 h.1).1 (omega arith), h.2)),
    )
bounds_depth _ m _ _ bytes h = absurd h
