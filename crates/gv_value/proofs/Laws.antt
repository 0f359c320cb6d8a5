-- The laws of whole values: what is read is spelled so, what is spelled so is read, and each value has one spelling.
use Rattle.std.proofs.Common.{◌≡◌, ℕ, zero, suc, ◌+◌, ◌-◌, ◌*◌, ◌^◌, ◌<◌, ◌≤◌, Bool, true, false, cond, ◌&&◌, eqb, leb, List, [], ◌∷◌, ◌++◌, length, reverse, Option, Some, None, option_map, option_and_then, refl, sym, ap, ◌∙◌, subst, arith, length-append, append-nil, flat_map, ◌↔◌, IsTrue}
use Rattle.std.specs.Prelude.{⊤, IfSome}
use Rattle.std.specs.Int.{Width, w8, w16, w32, w64, w128, byte_len}
use Rattle.std.specs.List.{concat}
use Rattle.std.proofs.lemmas.Bool.{eqb-true, eq-eqb, leb-true, le-leb, and_parts, and_from}
use Rattle.std.proofs.lemmas.Bool.Decides.{nat_tests}
use Rattle.gv_value.specs.declared.basic.Basic.{Basic}
use Rattle.gv_value.specs.declared.basic.Basic.TheVariants as basics
use Rattle.gv_value.specs.Basics.{Form, form_of}
use Rattle.gv_value.specs.Signs.{basic_letter}
use Rattle.gv_value.specs.Bytes.{le_bytes, zeros, AllBelow}
use Rattle.gv_value.specs.Shape.{Shape, Shapes, no_shapes, shape, is_type}
use Rattle.gv_value.specs.Tree.{Content, Tree, Trees, no_trees, tree}
use Rattle.gv_value.specs.Layout.{align_of, size_of, form_size, filled, end_of}
use Rattle.gv_value.specs.Framing.{Part, placed, laid, ends, width, framed, OffsetsFit, IsFramed, same_parts, put_offset, is_none_left, written, tuple_body, tuple_offsets, array_children, tuple_children}
use Rattle.gv_value.specs.TypeText.{type_text, type_of}
use Rattle.gv_value.specs.Spelled.{ContentSpelled, ArraySpelled, JustSpelled, TupleSpelled, VariantSpelled, AllSpelled, EachSpelled, two_shapes, two_trees, SpelledWithin, Spelled}
use Rattle.gv_value.specs.Spelling.{all_fit, each_fits, fits_within, fits, array_bytes, just_bytes, tuple_bytes, spelling, spelling_of_all, spelling_of_each}
use Rattle.gv_value.specs.Reading.{content_at, before_zero, read_all, read_each, just_at, maybe_at, parted, variant_at, as_entry, value_at, value_of}
use Rattle.gv_value.proofs.Lists.{then_some, map_some, length-zeros}
use Rattle.gv_value.proofs.Cutting.{length-laid}
use Rattle.gv_value.proofs.Arrays.{AllSized, array_children-spelled, array_children-found}
use Rattle.gv_value.proofs.Tuples.{EachSized, SameCount, length-fixed, size-tuple, tuple_children-spelled, tuple_children-found}
use Rattle.gv_value.proofs.TypeLaws.{type_back, type_of-found, type_nonzero, parted-spelled, parted-found}
use Rattle.gv_value.proofs.Contents.{content_at-found, content_at-spelled, length-content, before_zero-spelled, before_zero-found, content_is, content_spelled, same_basic}
use Rattle.std.proofs.lemmas.Option.{same_Some}

-- a relation between types, values and bytes
abbrev pub Relation : Type 1
Relation = Shape → Tree → List ℕ → Type 0

-- ---- sizes

abbrev pub HasSizes : Relation → Type 0
HasSizes R = (t : Shape) (v : Tree) (bytes : List ℕ) (s : ℕ) → R t v bytes → size_of t ≡ Some s → length bytes ≡ s

all_sized : (R : Relation) → HasSizes R → (t : Shape) (vs : Trees) (cs : List (List ℕ)) (s : ℕ) → size_of t ≡ Some s → AllSpelled (R t) vs cs → AllSized s cs
all_sized R sizes t no_trees [] s e h = tt
all_sized R sizes t (tree v vs) (c ∷ cs) s e h = (sizes t v c s h.0 e, all_sized R sizes t vs cs s e h.1)
all_sized R sizes t no_trees (c ∷ cs) s e h = absurd h
all_sized R sizes t (tree v vs) [] s e h = absurd h

if_sized : (o : Option ℕ) (n : ℕ) → ((s : ℕ) → o ≡ Some s → n ≡ s) → IfSome o (λ s. n ≡ s)
if_sized None n h = tt
if_sized (Some s) n h = h s refl

each_sized : (R : Relation) → HasSizes R → (ts : Shapes) (vs : Trees) (cs : List (List ℕ)) → EachSpelled R ts vs cs → EachSized ts cs
each_sized R sizes no_shapes no_trees [] h = tt
each_sized R sizes (shape t ts) (tree v vs) (c ∷ cs) h =
    (if_sized (size_of t) (length c) (λ s e. sizes t v c s h.0 e), each_sized R sizes ts vs cs h.1)
each_sized R sizes no_shapes no_trees (c ∷ cs) h = absurd h
each_sized R sizes no_shapes (tree v vs) cs h = absurd h
each_sized R sizes (shape t ts) no_trees cs h = absurd h
each_sized R sizes (shape t ts) (tree v vs) [] h = absurd h

-- a tuple of fixed size has that length
tuple_length : (ts : Shapes) (cs : List (List ℕ)) (bytes : List ℕ) (s : ℕ) → EachSized ts cs → size_of (Shape.tuple ts) ≡ Some s →
    TupleSpelled (size_of (Shape.tuple ts)) ts cs bytes → length bytes ≡ s
tuple_length ts cs bytes s sized e h =
    let body = tuple_body ts cs in
    let is : bytes ≡ body ++ zeros (s - length body) = subst (λ (o : Option ℕ). TupleSpelled o ts cs bytes) e h in
    let m = size-tuple ts s e in
    let ends_at = length-fixed [] ts cs m.0 sized m.1 in
    omega (arith, ap length is, length-append body (zeros (s - length body)), length-zeros (s - length body), ends_at, m.2)

pub sizes_within : (n : ℕ) → HasSizes (SpelledWithin n)
sizes_within n (Shape.basic b) (Tree.leaf c content) bytes s h e = length-content (form_of b) content bytes s h.1 e
sizes_within (suc n) (Shape.tuple ts) (Tree.tuple vs) bytes s h e =
    tuple_length ts h.0 bytes s (each_sized (SpelledWithin n) (sizes_within n) ts vs h.0 h.1) e h.2
sizes_within (suc n) (Shape.entry k v) (Tree.entry a b) bytes s h e =
    tuple_length (two_shapes k v) h.0 bytes s (each_sized (SpelledWithin n) (sizes_within n) (two_shapes k v) (two_trees a b) h.0 h.1) e h.2
sizes_within (suc n) Shape.variant v bytes s h e = absurd cc
sizes_within (suc n) (Shape.array t) v bytes s h e = absurd cc
sizes_within (suc n) (Shape.maybe t) v bytes s h e = absurd cc
sizes_within _ _ _ bytes s h e = absurd h

width_len_pos : (w : Width) → 0 < byte_len w
width_len_pos w8 = omega arith
width_len_pos w16 = omega arith
width_len_pos w32 = omega arith
width_len_pos w64 = omega arith
width_len_pos w128 = omega arith

pub form_size-pos : (f : Form) (s : ℕ) → form_size f ≡ Some s → 0 < s
form_size-pos Form.truth s e = omega (arith, same_Some 1 s e)
form_size-pos (Form.unsigned w) s e = omega (arith, same_Some (byte_len w) s e, width_len_pos w)
form_size-pos (Form.signed w) s e = omega (arith, same_Some (byte_len w) s e, width_len_pos w)
form_size-pos Form.double s e = omega (arith, same_Some 8 s e)
form_size-pos (Form.text kind) s e = absurd cc

filled-pos : (a e : ℕ) → 0 < filled a e
filled-pos a e = omega arith

pub size-pos : (t : Shape) (s : ℕ) → size_of t ≡ Some s → 0 < s
size-pos (Shape.basic b) s e = form_size-pos (form_of b) s e
size-pos (Shape.tuple ts) s e = let m = map_some (filled (align_of (Shape.tuple ts))) (end_of 0 ts) s e in subst (λ (n : ℕ). 0 < n) m.2 (filled-pos (align_of (Shape.tuple ts)) m.0)
size-pos (Shape.entry k v) s e =
    let ts = two_shapes k v in
    let m = map_some (filled (align_of (Shape.tuple ts))) (end_of 0 ts) s e in subst (λ (n : ℕ). 0 < n) m.2 (filled-pos (align_of (Shape.tuple ts)) m.0)
size-pos Shape.variant s e = absurd cc
size-pos (Shape.array t) s e = absurd cc
size-pos (Shape.maybe t) s e = absurd cc

-- ---- what is read is spelled so

-- what a reader reads is in the relation
abbrev pub Finds : (Shape → List ℕ → Option Tree) → Relation → Type 0
Finds one R = (t : Shape) (bytes : List ℕ) (v : Tree) → one t bytes ≡ Some v → R t v bytes

all_found : (one : Shape → List ℕ → Option Tree) (R : Relation) → Finds one R → (t : Shape) (cs : List (List ℕ)) (vs : Trees) → read_all (one t) cs ≡ Some vs → AllSpelled (R t) vs cs
all_found one R finds t [] vs e = let none : no_trees ≡ vs = cc in subst (λ (x : Trees). AllSpelled (R t) x []) none tt
all_found one R finds t (c ∷ cs) vs e =
    let a = then_some (λ v. option_map (tree v) (read_all (one t) cs)) (one t c) vs e in
    let b = map_some (tree a.0) (read_all (one t) cs) vs a.2 in
    subst (λ (x : Trees). AllSpelled (R t) x (c ∷ cs)) b.2 (finds t c a.0 a.1, all_found one R finds t cs b.0 b.1)

each_found : (one : Shape → List ℕ → Option Tree) (R : Relation) → Finds one R → (ts : Shapes) (cs : List (List ℕ)) (vs : Trees) → read_each one ts cs ≡ Some vs → EachSpelled R ts vs cs
each_found one R finds no_shapes [] vs e = let none : no_trees ≡ vs = cc in subst (λ (x : Trees). EachSpelled R no_shapes x []) none tt
each_found one R finds (shape t ts) (c ∷ cs) vs e =
    let a = then_some (λ v. option_map (tree v) (read_each one ts cs)) (one t c) vs e in
    let b = map_some (tree a.0) (read_each one ts cs) vs a.2 in
    subst (λ (x : Trees). EachSpelled R (shape t ts) x (c ∷ cs)) b.2 (finds t c a.0 a.1, each_found one R finds ts cs b.0 b.1)
each_found one R finds no_shapes (c ∷ cs) vs e = absurd cc
each_found one R finds (shape t ts) [] vs e = absurd cc

just_found : (one : Shape → List ℕ → Option Tree) (R : Relation) → Finds one R → (t : Shape) (size : Option ℕ) (bytes : List ℕ) (v : Tree) →
    just_at (one t) size bytes ≡ Some v → (child : List ℕ) × R t v child × JustSpelled size child bytes
just_found one R finds t (Some s) bytes v e = (bytes, finds t bytes v e, refl)
just_found one R finds t None bytes v e =
    let a = then_some (one t) (before_zero (length bytes - 1) bytes) v e in
    (a.0, finds t a.0 v a.2, before_zero-found (length bytes - 1) bytes a.0 a.1)

abbrev pub MaybeSpelled : (Tree → List ℕ → Type 0) → Option ℕ → Tree → List ℕ → Type 0
MaybeSpelled One size Tree.nothing bytes = bytes ≡ []
MaybeSpelled One size (Tree.just v) bytes = (child : List ℕ) × One v child × JustSpelled size child bytes
MaybeSpelled One size _ bytes = ⊥

maybe_found : (one : Shape → List ℕ → Option Tree) (R : Relation) → Finds one R → (t : Shape) (size : Option ℕ) (bytes : List ℕ) (v : Tree) →
    maybe_at (one t) size bytes ≡ Some v → MaybeSpelled (R t) size v bytes
maybe_found one R finds t size [] v e = let same : Tree.nothing ≡ v = cc in subst (λ (x : Tree). MaybeSpelled (R t) size x []) same refl
maybe_found one R finds t size (b ∷ bytes) v e =
    let a = map_some Tree.just (just_at (one t) size (b ∷ bytes)) v e in
    subst (λ (x : Tree). MaybeSpelled (R t) size x (b ∷ bytes)) a.2 (just_found one R finds t size (b ∷ bytes) a.0 a.1)

maybe_within : (n : ℕ) (t : Shape) (v : Tree) (bytes : List ℕ) → MaybeSpelled (SpelledWithin n t) (size_of t) v bytes → SpelledWithin (suc n) (Shape.maybe t) v bytes
maybe_within n t Tree.nothing bytes h = h
maybe_within n t (Tree.just v) bytes h = h
maybe_within n t _ bytes h = absurd h

variant_found : (n : ℕ) → Finds (value_at n) (SpelledWithin n) → (bytes : List ℕ) (v : Tree) → variant_at (value_at n) bytes ≡ Some v → SpelledWithin (suc n) Shape.variant v bytes
variant_found n finds bytes v e =
    let a = then_some (λ p. option_and_then (λ t. option_map (Tree.variant t) (value_at n t p.0)) (type_of p.1)) (parted bytes) v e in
    let b = then_some (λ t. option_map (Tree.variant t) (value_at n t a.0.0)) (type_of a.0.1) v a.2 in
    let c = map_some (Tree.variant b.0) (value_at n b.0 a.0.0) v b.2 in
    let text = type_of-found a.0.1 b.0 b.1 in
    subst (λ (x : Tree). SpelledWithin (suc n) Shape.variant x bytes) c.2
    (a.0.0, finds b.0 a.0.0 c.0 c.1, (text.type, parted-found bytes a.0 a.1 ∙ ap (λ (xs : List ℕ). a.0.0 ++ 0 ∷ xs) text.is))

entry_two : (vs : Trees) (v : Tree) → as_entry vs ≡ Some v → (a : Tree) × (b : Tree) × (vs ≡ two_trees a b) × (v ≡ Tree.entry a b)
entry_two no_trees v e = absurd cc
entry_two (tree a no_trees) v e = absurd cc
entry_two (tree a (tree b no_trees)) v e = (a, b, refl, sym (same_Some (Tree.entry a b) v e))
entry_two (tree a (tree b (tree c vs))) v e = absurd cc

pub value_at-found : (n : ℕ) → Finds (value_at n) (SpelledWithin n)
value_at-found n (Shape.basic b) bytes v e =
    let a = map_some (Tree.leaf b) (content_at (form_of b) bytes) v e in
    subst (λ (x : Tree). SpelledWithin n (Shape.basic b) x bytes) a.2 (leaf_within n b a.0 bytes (content_at-found (form_of b) bytes a.0 a.1))
  where
    leaf_within : (m : ℕ) (c : Basic) (x : Content) (xs : List ℕ) → ContentSpelled (form_of c) x xs → SpelledWithin m (Shape.basic c) (Tree.leaf c x) xs
    leaf_within zero c x xs h = (refl, h)
    leaf_within (suc m) c x xs h = (refl, h)
value_at-found (suc n) Shape.variant bytes v e = variant_found n (value_at-found n) bytes v e
value_at-found (suc n) (Shape.array t) bytes v e =
    let a = map_some Tree.array (option_and_then (read_all (value_at n t)) (array_children (align_of t) (size_of t) bytes)) v e in
    let b = then_some (read_all (value_at n t)) (array_children (align_of t) (size_of t) bytes) a.0 a.1 in
    subst (λ (x : Tree). SpelledWithin (suc n) (Shape.array t) x bytes) a.2
    (b.0, all_found (value_at n) (SpelledWithin n) (value_at-found n) t b.0 a.0 b.2, array_children-found (align_of t) (size_of t) bytes b.0 b.1)
value_at-found (suc n) (Shape.maybe t) bytes v e =
    maybe_within n t v bytes (maybe_found (value_at n) (SpelledWithin n) (value_at-found n) t (size_of t) bytes v e)
value_at-found (suc n) (Shape.tuple ts) bytes v e =
    let size = size_of (Shape.tuple ts) in
    let a = map_some Tree.tuple (option_and_then (read_each (value_at n) ts) (tuple_children size ts bytes)) v e in
    let b = then_some (read_each (value_at n) ts) (tuple_children size ts bytes) a.0 a.1 in
    subst (λ (x : Tree). SpelledWithin (suc n) (Shape.tuple ts) x bytes) a.2
    (b.0, each_found (value_at n) (SpelledWithin n) (value_at-found n) ts b.0 a.0 b.2, (tuple_children-found ts size bytes b.0 refl b.1).1)
value_at-found (suc n) (Shape.entry k w) bytes v e =
    let ts = two_shapes k w in
    let size = size_of (Shape.tuple ts) in
    let a = then_some as_entry (option_and_then (read_each (value_at n) ts) (tuple_children size ts bytes)) v e in
    let b = then_some (read_each (value_at n) ts) (tuple_children size ts bytes) a.0 a.1 in
    let two = entry_two a.0 v a.2 in
    let each = subst (λ (vs : Trees). EachSpelled (SpelledWithin n) ts vs b.0) two.2 (each_found (value_at n) (SpelledWithin n) (value_at-found n) ts b.0 a.0 b.2) in
    subst (λ (x : Tree). SpelledWithin (suc n) (Shape.entry k w) x bytes) (sym two.3)
    (b.0, each, (tuple_children-found ts size bytes b.0 refl b.1).1)
value_at-found zero Shape.variant bytes v e = absurd cc
value_at-found zero (Shape.array t) bytes v e = absurd cc
value_at-found zero (Shape.maybe t) bytes v e = absurd cc
value_at-found zero (Shape.tuple ts) bytes v e = absurd cc
value_at-found zero (Shape.entry k w) bytes v e = absurd cc

-- ---- what is spelled is read

-- what is in the relation is read
abbrev pub Reads : (Shape → List ℕ → Option Tree) → Relation → Type 0
Reads one R = (t : Shape) (v : Tree) (bytes : List ℕ) → R t v bytes → one t bytes ≡ Some v

all_read : (one : Shape → List ℕ → Option Tree) (R : Relation) → Reads one R → (t : Shape) (vs : Trees) (cs : List (List ℕ)) → AllSpelled (R t) vs cs → read_all (one t) cs ≡ Some vs
all_read one R reads t no_trees [] h = refl
all_read one R reads t (tree v vs) (c ∷ cs) h =
    ap (option_and_then (λ x. option_map (tree x) (read_all (one t) cs))) (reads t v c h.0) ∙ ap (option_map (tree v)) (all_read one R reads t vs cs h.1)
all_read one R reads t no_trees (c ∷ cs) h = absurd h
all_read one R reads t (tree v vs) [] h = absurd h

each_read : (one : Shape → List ℕ → Option Tree) (R : Relation) → Reads one R → (ts : Shapes) (vs : Trees) (cs : List (List ℕ)) → EachSpelled R ts vs cs → read_each one ts cs ≡ Some vs
each_read one R reads no_shapes no_trees [] h = refl
each_read one R reads (shape t ts) (tree v vs) (c ∷ cs) h =
    ap (option_and_then (λ x. option_map (tree x) (read_each one ts cs))) (reads t v c h.0) ∙ ap (option_map (tree v)) (each_read one R reads ts vs cs h.1)
each_read one R reads no_shapes no_trees (c ∷ cs) h = absurd h
each_read one R reads no_shapes (tree v vs) cs h = absurd h
each_read one R reads (shape t ts) no_trees cs h = absurd h
each_read one R reads (shape t ts) (tree v vs) [] h = absurd h

just_read : (one : List ℕ → Option Tree) (size : Option ℕ) (child bytes : List ℕ) (v : Tree) → one child ≡ Some v →
    ((s : ℕ) → size ≡ Some s → 0 < length child) → JustSpelled size child bytes → maybe_at one size bytes ≡ Some (Tree.just v)
just_read one (Some s) child [] v e long h = absurd (omega (arith, ap length h, long s refl))
just_read one (Some s) child (b ∷ bytes) v e long h = ap (option_map Tree.just) (ap one h ∙ e)
just_read one None child [] v e long h = absurd (omega (arith, ap length h, length-append child (0 ∷ [])))
just_read one None child (b ∷ bytes) v e long h =
    ap (λ (xs : List ℕ). option_map Tree.just (option_and_then one (before_zero (length xs - 1) xs))) h
    ∙ ap (λ (o : Option (List ℕ)). option_map Tree.just (option_and_then one o)) (before_zero-spelled child) ∙ ap (option_map Tree.just) e

pub value_at-spelled : (n : ℕ) → Reads (value_at n) (SpelledWithin n)
value_at-spelled n (Shape.basic b) (Tree.leaf c content) bytes h =
    ap (option_map (Tree.leaf b)) (content_at-spelled (form_of b) content bytes h.1) ∙ ap (λ (x : Basic). Some (Tree.leaf x content)) h.0
value_at-spelled (suc n) Shape.variant (Tree.variant t v) bytes h =
    let child = h.0 in
    let again = λ (p : List ℕ × List ℕ). option_and_then (λ u. option_map (Tree.variant u) (value_at n u p.0)) (type_of p.1) in
    ap (λ (xs : List ℕ). option_and_then again (parted xs)) h.2.1
    ∙ ap (option_and_then again) (parted-spelled child (type_text t) (type_nonzero t))
    ∙ ap (option_and_then (λ u. option_map (Tree.variant u) (value_at n u child))) (type_back t h.2.0)
    ∙ ap (option_map (Tree.variant t)) (value_at-spelled n t v child h.1)
value_at-spelled (suc n) (Shape.array t) (Tree.array vs) bytes h =
    let cut_again = array_children-spelled (align_of t) (size_of t) h.0 bytes
    (λ s e. (size-pos t s e, all_sized (SpelledWithin n) (sizes_within n) t vs h.0 s e h.1)) h.2 in
    ap (λ (o : Option (List (List ℕ))). option_map Tree.array (option_and_then (read_all (value_at n t)) o)) cut_again
    ∙ ap (option_map Tree.array) (all_read (value_at n) (SpelledWithin n) (value_at-spelled n) t vs h.0 h.1)
value_at-spelled (suc n) (Shape.maybe t) Tree.nothing bytes h = ap (maybe_at (value_at n t) (size_of t)) h
value_at-spelled (suc n) (Shape.maybe t) (Tree.just v) bytes h =
    just_read (value_at n t) (size_of t) h.0 bytes v (value_at-spelled n t v h.0 h.1)
    (λ s e. subst (λ (m : ℕ). 0 < m) (sym (sizes_within n t v h.0 s h.1 e)) (size-pos t s e)) h.2
value_at-spelled (suc n) (Shape.tuple ts) (Tree.tuple vs) bytes h =
    let size = size_of (Shape.tuple ts) in
    let cut_again = tuple_children-spelled ts size h.0 bytes refl (each_sized (SpelledWithin n) (sizes_within n) ts vs h.0 h.1) h.2 in
    ap (λ (o : Option (List (List ℕ))). option_map Tree.tuple (option_and_then (read_each (value_at n) ts) o)) cut_again
    ∙ ap (option_map Tree.tuple) (each_read (value_at n) (SpelledWithin n) (value_at-spelled n) ts vs h.0 h.1)
value_at-spelled (suc n) (Shape.entry k w) (Tree.entry a b) bytes h =
    let ts = two_shapes k w in
    let size = size_of (Shape.tuple ts) in
    let cut_again = tuple_children-spelled ts size h.0 bytes refl (each_sized (SpelledWithin n) (sizes_within n) ts (two_trees a b) h.0 h.1) h.2 in
    ap (λ (o : Option (List (List ℕ))). option_and_then as_entry (option_and_then (read_each (value_at n) ts) o)) cut_again
    ∙ ap (option_and_then as_entry) (each_read (value_at n) (SpelledWithin n) (value_at-spelled n) ts (two_trees a b) h.0 h.1)
value_at-spelled _ _ _ bytes h = absurd h
