-- A value of a container, by its children.
use Rattle.std.proofs.Common.{◌≡◌, ℕ, suc, ◌≤◌, true, Bool, ◌&&◌, leb, List, [], ◌∷◌, length, Option, Some, None, option_map, option_and_then, sym, ap, ◌∙◌, subst, arith, refl}
use Rattle.std.proofs.lemmas.Bool.{and_parts, leb-true}
use Rattle.fp_base.proofs.Options.{guarded}
use Rattle.gv_value.specs.declared.limits.TheConstants.{MOST_BYTES, MOST_DEPTH}
use Rattle.gv_value.specs.Framing.{array_children, tuple_children}
use Rattle.gv_value.specs.Layout.{align_of, size_of}
use Rattle.gv_value.specs.Reading.{Reader, read_all, read_each, as_entry, value_at, value_of, parted}
use Rattle.gv_value.specs.Shape.{Shape, Shapes, no_shapes, shape, is_type}
use Rattle.gv_value.specs.Spelled.{two_shapes, Spelled}
use Rattle.gv_value.specs.Tree.{Tree, Trees, no_trees, tree}
use Rattle.gv_value.specs.TypeText.{type_of}
use Rattle.gv_value.proofs.Depths.{bounds_depth}
use Rattle.gv_value.proofs.Exact.{reads_values}
use Rattle.gv_value.proofs.Laws.{value_at-found}
use Rattle.gv_value.proofs.Lists.{then_some, map_some}
use Rattle.gv_decode.specs.Decoded.{children_of}

-- what is read in a container is read alone
pub alone : (n : ℕ) (t : Shape) (bytes : List ℕ) (v : Tree) → n ≤ MOST_DEPTH → is_type t ≡ true → length bytes ≤ MOST_BYTES → value_at n t bytes ≡ Some v → value_of t bytes ≡ Some v
alone n t bytes v few type short e =
    let both = bounds_depth n MOST_DEPTH t v bytes (value_at-found n t bytes v e) in
    (reads_values t v bytes).1 (record { type = type; value = both.1 (omega (arith, both.0, few)); short = short })

-- what is read of a type
whole : (t : Shape) (bytes : List ℕ) (v : Tree) → value_of t bytes ≡ Some v → (length bytes ≤ MOST_BYTES) × (value_at MOST_DEPTH t bytes ≡ Some v)
whole t bytes v e =
    let g = guarded (is_type t && leb (length bytes) MOST_BYTES) (value_at MOST_DEPTH t bytes) v e in
    (leb-true (length bytes) MOST_BYTES (and_parts (is_type t) (leb (length bytes) MOST_BYTES) g.0).1, g.1)

pub value-short : (t : Shape) (bytes : List ℕ) (v : Tree) → value_of t bytes ≡ Some v → length bytes ≤ MOST_BYTES
value-short t bytes v e = (whole t bytes v e).0

pub tuple-value : (ts : Shapes) (bytes : List ℕ) (v : Tree) → value_of (Shape.tuple ts) bytes ≡ Some v →
    (vs : Trees) × (v ≡ Tree.tuple vs) × (option_and_then (read_each (value_at 63) ts) (children_of (Shape.tuple ts) bytes) ≡ Some vs)
tuple-value ts bytes v e =
    let m = map_some Tree.tuple (option_and_then (read_each (value_at 63) ts) (children_of (Shape.tuple ts) bytes)) v (whole (Shape.tuple ts) bytes v e).1 in
    (m.0, sym m.2, m.1)

pub array-value : (t : Shape) (bytes : List ℕ) (v : Tree) → value_of (Shape.array t) bytes ≡ Some v →
    (vs : Trees) × (v ≡ Tree.array vs) × (option_and_then (read_all (value_at 63 t)) (children_of (Shape.array t) bytes) ≡ Some vs)
array-value t bytes v e =
    let m = map_some Tree.array (option_and_then (read_all (value_at 63 t)) (children_of (Shape.array t) bytes)) v (whole (Shape.array t) bytes v e).1 in
    (m.0, sym m.2, m.1)

pub entry-value : (k w : Shape) (bytes : List ℕ) (v : Tree) → value_of (Shape.entry k w) bytes ≡ Some v →
    (vs : Trees) × (as_entry vs ≡ Some v) × (option_and_then (read_each (value_at 63) (two_shapes k w)) (children_of (Shape.entry k w) bytes) ≡ Some vs)
entry-value k w bytes v e =
    let m = then_some as_entry (option_and_then (read_each (value_at 63) (two_shapes k w)) (children_of (Shape.entry k w) bytes)) v (whole (Shape.entry k w) bytes v e).1 in
    (m.0, m.2, m.1)

pub variant-value : (bytes : List ℕ) (v : Tree) (front text : List ℕ) → value_of Shape.variant bytes ≡ Some v → parted bytes ≡ Some (front, text) →
    (t : Shape) × (u : Tree) × (v ≡ Tree.variant t u) × (type_of text ≡ Some t)
variant-value bytes v front text e parts =
    let read = sym (ap (option_and_then (λ p. option_and_then (λ t. option_map (Tree.variant t) (value_at 63 t p.0)) (type_of p.1))) parts) ∙ (whole Shape.variant bytes v e).1 in
    let t = then_some (λ s. option_map (Tree.variant s) (value_at 63 s front)) (type_of text) v read in
    let u = map_some (Tree.variant t.0) (value_at 63 t.0 front) v t.2 in
    (t.0, u.0, sym u.2, t.1)

pub unparted-value : (bytes : List ℕ) (v : Tree) → value_of Shape.variant bytes ≡ Some v → parted bytes ≡ None → ⊥
unparted-value bytes v e none =
    let read = sym (ap (option_and_then (λ p. option_and_then (λ t. option_map (Tree.variant t) (value_at 63 t p.0)) (type_of p.1))) none) ∙ (whole Shape.variant bytes v e).1 in
    cc read

-- ---- children one by one

-- the first child, and the others
pub record FirstRead (one : Shape → Reader) (t : Shape) (ts : Shapes) (child : List ℕ) (others : List (List ℕ)) (vs : Trees) : Type 0 where
  pub head : Tree
  pub tail : Trees
  pub is : vs ≡ tree head tail
  pub reads : one t child ≡ Some head
  pub rest : read_each one ts others ≡ Some tail

pub first-read : (one : Shape → Reader) (t : Shape) (ts : Shapes) (child : List ℕ) (others : List (List ℕ)) (vs : Trees) → read_each one (shape t ts) (child ∷ others) ≡ Some vs →
    FirstRead one t ts child others vs
first-read one t ts child others vs e =
    let a = then_some (λ v. option_map (tree v) (read_each one ts others)) (one t child) vs e in
    let b = map_some (tree a.0) (read_each one ts others) vs a.2 in
    record { head = a.0; tail = b.0; is = sym b.2; reads = a.1; rest = b.1 }

pub none-read : (one : Shape → Reader) (cs : List (List ℕ)) (vs : Trees) → read_each one no_shapes cs ≡ Some vs → (vs ≡ no_trees) × (cs ≡ [])
none-read one [] vs e = (cc, refl)
none-read one (c ∷ cs) vs e = absurd cc

pub not-read : (one : Shape → Reader) (t : Shape) (ts : Shapes) (vs : Trees) → read_each one (shape t ts) [] ≡ Some vs → ⊥
not-read one t ts vs e = cc

pub record FirstOfAll (one : Reader) (child : List ℕ) (others : List (List ℕ)) (vs : Trees) : Type 0 where
  pub head : Tree
  pub tail : Trees
  pub is : vs ≡ tree head tail
  pub reads : one child ≡ Some head
  pub rest : read_all one others ≡ Some tail

pub first-of-all : (one : Reader) (child : List ℕ) (others : List (List ℕ)) (vs : Trees) → read_all one (child ∷ others) ≡ Some vs → FirstOfAll one child others vs
first-of-all one child others vs e =
    let a = then_some (λ v. option_map (tree v) (read_all one others)) (one child) vs e in
    let b = map_some (tree a.0) (read_all one others) vs a.2 in
    record { head = a.0; tail = b.0; is = sym b.2; reads = a.1; rest = b.1 }
