-- Each value has one spelling, and what fits has one.
use Rattle.std.proofs.Common.{◌≡◌, ℕ, zero, suc, ◌+◌, ◌-◌, ◌*◌, ◌^◌, ◌<◌, ◌≤◌, Bool, true, false, cond, ◌&&◌, eqb, leb, List, [], ◌∷◌, ◌++◌, length, reverse, Option, Some, None, refl, sym, ap, ◌∙◌, subst, arith, length-append, append_assoc, flat_map, ◌↔◌, IsTrue}
use Rattle.std.specs.Prelude.{⊤}
use Rattle.std.specs.List.{concat}
use Rattle.std.proofs.lemmas.Bool.{eqb-true, eq-eqb, leb-true, le-leb, leb-false, and_parts, and_from}
use Rattle.std.proofs.lemmas.List.{reverse-append}
use Rattle.gv_value.specs.declared.basic.Basic.{Basic}
use Rattle.gv_value.specs.Basics.{Form, form_of}
use Rattle.gv_value.specs.Signs.{basic_letter}
use Rattle.gv_value.specs.Bytes.{le_bytes, zeros, AllBelow}
use Rattle.gv_value.specs.Shape.{Shape, Shapes, no_shapes, shape, is_type}
use Rattle.gv_value.specs.Tree.{Content, Tree, Trees, no_trees, tree}
use Rattle.gv_value.specs.Layout.{padding, align_of, size_of}
use Rattle.gv_value.specs.Framing.{Part, placed, laid, ends, width, framed, OffsetsFit, IsFramed, same_parts, parts_of, put_offset, is_none_left, written, tuple_body, tuple_offsets}
use Rattle.gv_value.specs.TypeText.{type_text}
use Rattle.gv_value.specs.Spelled.{ContentSpelled, ArraySpelled, JustSpelled, TupleSpelled, AllSpelled, EachSpelled, two_shapes, two_trees, SpelledWithin, Spelled}
use Rattle.gv_value.specs.Spelling.{content_fits, content_bytes, all_fit, each_fits, fits_within, fits, array_bytes, just_bytes, tuple_bytes, spelling, spelling_of_all, spelling_of_each}
use Rattle.gv_value.proofs.Cutting.{length-laid}
use Rattle.gv_value.proofs.Contents.{content_is, content_spelled, same_basic}
use Rattle.gv_value.proofs.Laws.{Relation}

-- ---- what is spelled fits, and has the spelling

pub record Is (n : ℕ) (t : Shape) (v : Tree) (bytes : List ℕ) : Type 0 where
  pub fit : fits_within n t v ≡ true
  pub spell : bytes ≡ spelling v t

abbrev pub AllAre : ℕ → Type 0
AllAre n = (t : Shape) (v : Tree) (bytes : List ℕ) → SpelledWithin n t v bytes → Is n t v bytes

all_are : (n : ℕ) → AllAre n → (t : Shape) (vs : Trees) (cs : List (List ℕ)) → AllSpelled (SpelledWithin n t) vs cs → (all_fit (fits_within n t) vs ≡ true) × (cs ≡ spelling_of_all vs t)
all_are n are t no_trees [] h = (refl, refl)
all_are n are t (tree v vs) (c ∷ cs) h =
    let one = are t v c h.0 in
    let more = all_are n are t vs cs h.1 in (
      and_from (fits_within n t v) (all_fit (fits_within n t) vs) one.fit more.0,
      ap (λ (x : List ℕ). x ∷ cs) one.spell ∙ ap (λ (xs : List (List ℕ)). spelling v t ∷ xs) more.1,
    )
all_are n are t no_trees (c ∷ cs) h = absurd h
all_are n are t (tree v vs) [] h = absurd h

each_are : (n : ℕ) → AllAre n → (ts : Shapes) (vs : Trees) (cs : List (List ℕ)) → EachSpelled (SpelledWithin n) ts vs cs → (each_fits (fits_within n) ts vs ≡ true) × (cs ≡ spelling_of_each vs ts)
each_are n are no_shapes no_trees [] h = (refl, refl)
each_are n are (shape t ts) (tree v vs) (c ∷ cs) h =
    let one = are t v c h.0 in
    let more = each_are n are ts vs cs h.1 in (
      and_from (fits_within n t v) (each_fits (fits_within n) ts vs) one.fit more.0,
      ap (λ (x : List ℕ). x ∷ cs) one.spell ∙ ap (λ (xs : List (List ℕ)). spelling v t ∷ xs) more.1,
    )
each_are n are no_shapes no_trees (c ∷ cs) h = absurd h
each_are n are no_shapes (tree v vs) cs h = absurd h
each_are n are (shape t ts) no_trees cs h = absurd h
each_are n are (shape t ts) (tree v vs) [] h = absurd h

array_is : (a : ℕ) (size : Option ℕ) (cs : List (List ℕ)) (bytes : List ℕ) → ArraySpelled a size cs bytes → bytes ≡ array_bytes a size cs
array_is a (Some s) cs bytes h = h
array_is a None cs bytes h = h.1

just_is : (size : Option ℕ) (child bytes : List ℕ) → JustSpelled size child bytes → bytes ≡ just_bytes size child
just_is (Some s) child bytes h = h
just_is None child bytes h = h

tuple_is : (size : Option ℕ) (ts : Shapes) (cs : List (List ℕ)) (bytes : List ℕ) → TupleSpelled size ts cs bytes → bytes ≡ tuple_bytes size ts cs
tuple_is (Some s) ts cs bytes h = h
tuple_is None ts cs bytes h = h.1

leaf_fits : (n : ℕ) (b c : Basic) (content : Content) → (b ≡ c) → content_fits (form_of b) content ≡ true → fits_within n (Shape.basic b) (Tree.leaf c content) ≡ true
leaf_fits zero b c content e h = and_from (eqb (basic_letter b) (basic_letter c)) (content_fits (form_of b) content) (eq-eqb (basic_letter b) (basic_letter c) (ap basic_letter e)) h
leaf_fits (suc n) b c content e h = and_from (eqb (basic_letter b) (basic_letter c)) (content_fits (form_of b) content) (eq-eqb (basic_letter b) (basic_letter c) (ap basic_letter e)) h

pub spelled_is : (n : ℕ) → AllAre n
spelled_is n (Shape.basic b) (Tree.leaf c content) bytes h =
    let is = content_is (form_of b) content bytes h.1 in
    record { fit = leaf_fits n b c content h.0 is.fits; spell = is.bytes_are }
spelled_is (suc n) Shape.variant (Tree.variant t v) bytes h =
    let one = spelled_is n t v h.0 h.1 in
    record { fit = and_from (is_type t) (fits_within n t v) h.2.0 one.fit; spell = h.2.1 ∙ ap (λ (xs : List ℕ). xs ++ 0 ∷ type_text t) one.spell }
spelled_is (suc n) (Shape.array t) (Tree.array vs) bytes h =
    let all = all_are n (spelled_is n) t vs h.0 h.1 in
    record { fit = all.0; spell = array_is (align_of t) (size_of t) h.0 bytes h.2 ∙ ap (array_bytes (align_of t) (size_of t)) all.1 }
spelled_is (suc n) (Shape.maybe t) Tree.nothing bytes h = record { fit = refl; spell = h }
spelled_is (suc n) (Shape.maybe t) (Tree.just v) bytes h =
    let one = spelled_is n t v h.0 h.1 in
    record { fit = one.fit; spell = just_is (size_of t) h.0 bytes h.2 ∙ ap (just_bytes (size_of t)) one.spell }
spelled_is (suc n) (Shape.tuple ts) (Tree.tuple vs) bytes h =
    let each = each_are n (spelled_is n) ts vs h.0 h.1 in
    let size = size_of (Shape.tuple ts) in
    record { fit = each.0; spell = tuple_is size ts h.0 bytes h.2 ∙ ap (tuple_bytes size ts) each.1 }
spelled_is (suc n) (Shape.entry k w) (Tree.entry a b) bytes h =
    let ts = two_shapes k w in
    let each = each_are n (spelled_is n) ts (two_trees a b) h.0 h.1 in
    let size = size_of (Shape.entry k w) in
    record { fit = each.0; spell = tuple_is size ts h.0 bytes h.2 ∙ ap (tuple_bytes size ts) each.1 }
spelled_is _ _ _ bytes h = absurd h

-- ---- what fits is spelled, where its bytes are not too many for offsets

abbrev pub limit : ℕ
limit = 256 ^ 8

width_fits : (n k : ℕ) → n < limit → n < 256 ^ width n k
width_fits n k h = by (leb (n + k) 0xFF) (leb (n + 2 * k) 0xFFFF) (leb (n + 4 * k) 0xFFFFFFFF) refl refl refl
  where
    by : (a b c : Bool) → leb (n + k) 0xFF ≡ a → leb (n + 2 * k) 0xFFFF ≡ b → leb (n + 4 * k) 0xFFFFFFFF ≡ c →
        n < 256 ^ (cond a 1 (cond b 2 (cond c 4 8)))
    by true b c p q r = let m = leb-true (n + k) 0xFF p in omega arith
    by false true c p q r = let m = leb-true (n + 2 * k) 0xFFFF q in omega arith
    by false false true p q r = let m = leb-true (n + 4 * k) 0xFFFFFFFF r in omega arith
    by false false false p q r = h

AllBelow-wider : (m n : ℕ) (ns : List ℕ) → m ≤ n → AllBelow m ns → AllBelow n ns
AllBelow-wider m n [] le h = tt
AllBelow-wider m n (x ∷ ns) le h = (omega (arith, h.0), AllBelow-wider m n ns le h.1)

AllBelow-append : (m : ℕ) (a b : List ℕ) → AllBelow m a → AllBelow m b → AllBelow m (a ++ b)
AllBelow-append m [] b p q = q
AllBelow-append m (x ∷ a) b p q = (p.0, AllBelow-append m a b p.1 q)

ends_below : (body : List ℕ) (parts : List Part) → AllBelow (suc (length (laid body parts))) (ends body parts)
ends_below body [] = tt
ends_below body (part ∷ parts) = (omega (arith, length-laid (placed body part) parts), ends_below (placed body part) parts)

AllBelow-reverse : (m : ℕ) (ns : List ℕ) → AllBelow m ns → AllBelow m (reverse ns)
AllBelow-reverse m [] h = tt
AllBelow-reverse m (x ∷ ns) h =
    subst (AllBelow m) (sym (reverse-append (x ∷ []) ns)) (AllBelow-append m (reverse ns) (x ∷ []) (AllBelow-reverse m ns h.1) (h.0, tt))

AllBelow-put : (m : ℕ) (o : Option ℕ) (last : Bool) (e : ℕ) (ns : List ℕ) → e < m → AllBelow m ns → AllBelow m (put_offset o last e ns)
AllBelow-put m (Some s) last e ns p q = q
AllBelow-put m None true e ns p q = q
AllBelow-put m None false e ns p q = (p, q)

AllBelow-written : (m : ℕ) (ts : Shapes) (es : List ℕ) → AllBelow m es → AllBelow m (written ts es)
AllBelow-written m no_shapes es h = tt
AllBelow-written m (shape t ts) [] h = tt
AllBelow-written m (shape t ts) (e ∷ es) h = AllBelow-put m (size_of t) (is_none_left ts) e (written ts es) h.0 (AllBelow-written m ts es h.1)

offsets_fit : (body os : List ℕ) → length body < limit → AllBelow (suc (length body)) os → OffsetsFit body os
offsets_fit body os short below =
    AllBelow-wider (suc (length body)) (256 ^ width (length body) (length os)) os (width_fits (length body) (length os) short) below

pub body_short : (body os : List ℕ) → length body ≤ length (framed body os)
body_short body os = omega (arith, length-append body (flat_map (le_bytes (width (length body) (length os))) os))

-- each is shorter than this
abbrev pub AllShort : ℕ → List (List ℕ) → Type 0
AllShort m [] = ⊤
AllShort m (c ∷ cs) = (length c < m) × AllShort m cs

AllShort-wider : (m n : ℕ) (cs : List (List ℕ)) → m ≤ n → AllShort m cs → AllShort n cs
AllShort-wider m n [] le h = tt
AllShort-wider m n (c ∷ cs) le h = (omega (arith, h.0), AllShort-wider m n cs le h.1)

same_short : (a : ℕ) (body : List ℕ) (cs : List (List ℕ)) → AllShort (suc (length (laid body (same_parts a cs)))) cs
same_short a body [] = tt
same_short a body (c ∷ cs) =
    let next = placed body (a, c) in
    let gap = zeros_of (length body) a in
    (omega (arith, length-laid next (same_parts a cs), length-append body (gap ++ c), length-append gap c), same_short a next cs)
  where
    zeros_of : ℕ → ℕ → List ℕ
    zeros_of at align = zeros (padding at align)

joined_short : (cs : List (List ℕ)) → AllShort (suc (length (concat cs))) cs
joined_short [] = tt
joined_short (c ∷ cs) =
    let len = length-append c (concat cs) in
    (omega arith, AllShort-wider (suc (length (concat cs))) (suc (length (c ++ concat cs))) cs (omega arith) (joined_short cs))

parts_short : (body : List ℕ) (ts : Shapes) (vs : Trees) → AllShort (suc (length (laid body (parts_of ts (spelling_of_each vs ts))))) (spelling_of_each vs ts)
parts_short body ts no_trees = tt
parts_short body no_shapes (tree v vs) = tt
parts_short body (shape t ts) (tree v vs) =
    let c = spelling v t in
    let next = placed body (align_of t, c) in
    let gap = zeros (padding (length body) (align_of t)) in
    (omega (arith, length-laid next (parts_of ts (spelling_of_each vs ts)), length-append body (gap ++ c), length-append gap c), parts_short next ts vs)

abbrev AllSpell : ℕ → Type 0
AllSpell n = (t : Shape) (v : Tree) → fits_within n t v ≡ true → length (spelling v t) < limit → SpelledWithin n t v (spelling v t)

all_spelled : (n : ℕ) → AllSpell n → (t : Shape) (vs : Trees) → all_fit (fits_within n t) vs ≡ true → AllShort limit (spelling_of_all vs t) →
    AllSpelled (SpelledWithin n t) vs (spelling_of_all vs t)
all_spelled n spell t no_trees h short = tt
all_spelled n spell t (tree v vs) h short =
    let p = and_parts (fits_within n t v) (all_fit (fits_within n t) vs) h in (spell t v p.0 short.0, all_spelled n spell t vs p.1 short.1)

each_spelled : (n : ℕ) → AllSpell n → (ts : Shapes) (vs : Trees) → each_fits (fits_within n) ts vs ≡ true → AllShort limit (spelling_of_each vs ts) →
    EachSpelled (SpelledWithin n) ts vs (spelling_of_each vs ts)
each_spelled n spell no_shapes no_trees h short = tt
each_spelled n spell (shape t ts) (tree v vs) h short =
    let p = and_parts (fits_within n t v) (each_fits (fits_within n) ts vs) h in (spell t v p.0 short.0, each_spelled n spell ts vs p.1 short.1)
each_spelled n spell no_shapes (tree v vs) h short = absurd cc
each_spelled n spell (shape t ts) no_trees h short = absurd cc

array_spelled : (a : ℕ) (size : Option ℕ) (cs : List (List ℕ)) → length (array_bytes a size cs) < limit → ArraySpelled a size cs (array_bytes a size cs) × AllShort limit cs
array_spelled a (Some s) cs short = (refl, AllShort-wider (suc (length (concat cs))) limit cs short (joined_short cs))
array_spelled a None cs short =
    let parts = same_parts a cs in
    let body = laid [] parts in
    let less : length body < limit = omega (arith, body_short body (ends [] parts), short) in
    ((offsets_fit body (ends [] parts) less (ends_below [] parts), refl), AllShort-wider (suc (length body)) limit cs less (same_short a [] cs))

tuple_spelled : (size : Option ℕ) (ts : Shapes) (vs : Trees) → let cs = spelling_of_each vs ts in length (tuple_bytes size ts cs) < limit →
    TupleSpelled size ts cs (tuple_bytes size ts cs) × AllShort limit cs
tuple_spelled (Some s) ts vs short =
    let cs = spelling_of_each vs ts in
    let body = tuple_body ts cs in
    let less : length body < limit = omega (arith, length-append body (zeros (s - length body)), short) in
    (refl, AllShort-wider (suc (length body)) limit cs less (parts_short [] ts vs))
tuple_spelled None ts vs short =
    let cs = spelling_of_each vs ts in
    let body = tuple_body ts cs in
    let es = ends [] (parts_of ts cs) in
    let less : length body < limit = omega (arith, body_short body (tuple_offsets ts cs), short) in
    let below = AllBelow-reverse (suc (length body)) (written ts es) (AllBelow-written (suc (length body)) ts es (ends_below [] (parts_of ts cs))) in
    ((offsets_fit body (tuple_offsets ts cs) less below, refl), AllShort-wider (suc (length body)) limit cs less (parts_short [] ts vs))

just_spelled : (size : Option ℕ) (child : List ℕ) → JustSpelled size child (just_bytes size child) × (length child ≤ length (just_bytes size child))
just_spelled (Some s) child = (refl, omega arith)
just_spelled None child = (refl, omega (arith, length-append child (0 ∷ [])))

pub fits_spelled : (n : ℕ) → AllSpell n
fits_spelled n (Shape.basic b) (Tree.leaf c content) h short = leaf_spelled n b c content h
  where
    leaf_spelled : (m : ℕ) (x y : Basic) (d : Content) → fits_within m (Shape.basic x) (Tree.leaf y d) ≡ true →
        SpelledWithin m (Shape.basic x) (Tree.leaf y d) (content_bytes (form_of x) d)
    leaf_spelled zero x y d e = let p = and_parts (eqb (basic_letter x) (basic_letter y)) (content_fits (form_of x) d) e in (same_basic x y p.0, content_spelled (form_of x) d p.1)
    leaf_spelled (suc m) x y d e = let p = and_parts (eqb (basic_letter x) (basic_letter y)) (content_fits (form_of x) d) e in (same_basic x y p.0, content_spelled (form_of x) d p.1)
fits_spelled (suc n) Shape.variant (Tree.variant t v) h short =
    let p = and_parts (is_type t) (fits_within n t v) h in
    (spelling v t, fits_spelled n t v p.1 (omega (arith, length-append (spelling v t) (0 ∷ type_text t), short)), (p.0, refl))
fits_spelled (suc n) (Shape.array t) (Tree.array vs) h short =
    let cs = spelling_of_all vs t in
    let is = array_spelled (align_of t) (size_of t) cs short in
    (cs, all_spelled n (fits_spelled n) t vs h is.1, is.0)
fits_spelled (suc n) (Shape.maybe t) Tree.nothing h short = refl
fits_spelled (suc n) (Shape.maybe t) (Tree.just v) h short =
    let is = just_spelled (size_of t) (spelling v t) in
    (spelling v t, fits_spelled n t v h (omega (arith, is.1, short)), is.0)
fits_spelled (suc n) (Shape.tuple ts) (Tree.tuple vs) h short =
    let is = tuple_spelled (size_of (Shape.tuple ts)) ts vs short in
    (spelling_of_each vs ts, each_spelled n (fits_spelled n) ts vs h is.1, is.0)
fits_spelled (suc n) (Shape.entry k w) (Tree.entry a b) h short =
    let ts = two_shapes k w in
    let is = tuple_spelled (size_of (Shape.entry k w)) ts (two_trees a b) short in
    (spelling_of_each (two_trees a b) ts, each_spelled n (fits_spelled n) ts (two_trees a b) h is.1, is.0)
fits_spelled zero Shape.variant v h short = absurd cc
fits_spelled zero (Shape.array t) v h short = absurd cc
fits_spelled zero (Shape.maybe t) v h short = absurd cc
fits_spelled zero (Shape.tuple ts) v h short = absurd cc
fits_spelled zero (Shape.entry k w) v h short = absurd cc
fits_spelled _ _ _ h short = absurd cc
