-- The parts of bytes that were checked, each by its own bytes.
use Rattle.std.proofs.Common.{◌≡◌, ℕ, ◌≤◌, ◌&&◌, leb, Bool, true, false, not, List, [], ◌∷◌, ◌++◌, length, map, Option, Some, None, option_map, option_and_then, refl, sym, ap, ap₂, ◌∙◌, subst, arith}
use Rattle.std.specs.Prelude.{Ok}
use denote.Ref.{Bor}
use Rattle.std.specs.Option.{is_some, IsSome}
use Rattle.std.proofs.lemmas.Bool.{and_parts, false≢true}
use Rattle.fp_base.proofs.Options.{guarded}
use Rattle.gv_value.specs.declared.limits.TheConstants.{MOST_BYTES, MOST_DEPTH}
use Rattle.gv_value.specs.Bytes.{AllBelow}
use Rattle.gv_value.specs.Reading.{read_all, read_each, value_at, value_of}
use Rattle.gv_value.specs.Shape.{Shape, Shapes, no_shapes, shape, is_type, all_shapes}
use Rattle.gv_value.specs.Tree.{Tree, Trees, tree, byte_trees}
use Rattle.gv_value.proofs.Lists.{then_some}
use Rattle.gv_decode.specs.Decoded.{children_of}
use Rattle.gv_decode.specs.declared.stepping.Elements.{Elements}
use Rattle.gv_decode.specs.Stepped.{elements_of, elements_left, Steps, GoesOn}
use Rattle.gv_decode.proofs.Contained.{alone, value-short, tuple-value, array-value, first-read, none-read, not-read, first-of-all}
use Rattle.gv_decode.proofs.Rooms.{byte_array-read}
use Rattle.gv_decode.proofs.Short.{Each, IsShort, children-each, short-of-parts, bytes-of-parts}
use Rattle.ost_model.specs.Contents.{bytes_shape}
use Rattle.ost_model.specs.Types.{text_shape}
use Rattle.ost_model.specs.Fields.{text_in, bytes_in, items_in, each_of, are_none}
use Rattle.fp_base.specs.declared.rule.Rule.{Rule}
use Rattle.ost_object.specs.declared.error.ObjectError.{ObjectError}
use Rattle.ost_object.specs.declared.error.ObjectError.TheVariants as errors
use Rattle.ost_object.specs.Answers.{only, passing, Misses}
use Rattle.ost_object.specs.Parts.{each_tree, AreEach, AreRows, AreLeft, row_trees, rows_passing, IsNext, IsStep}
use Rattle.ost_object.specs.Views.{tree_at, text_at}
use Rattle.ost_object.proofs.Kept.{tree_at-is, some-value, text-field}
use Rattle.ost_object.proofs.Rows.{remainder, remainder_one, remainder_all, bytes_back}

pub checked-short : (t : Shape) (bytes : List ℕ) → IsSome (value_of t bytes) → length bytes ≤ MOST_BYTES
checked-short t bytes some = let v = some-value (value_of t bytes) some in value-short t bytes v.0 v.1

is-some : {A : Type 0} (o : Option A) (x : A) → o ≡ Some x → IsSome o
is-some o x e = ap is_some e

-- ---- tuples

record EachRead (ts : Shapes) (cs : List (List ℕ)) (vs : Trees) : Type 0 where
  is : vs ≡ each_tree ts cs
  each : AreEach ts cs

no-more : {c : List ℕ} {cs : List (List ℕ)} → c ∷ cs ≡ [] → ⊥
no-more h = cc

each-read : (ts : Shapes) (cs : List (List ℕ)) (vs : Trees) → all_shapes is_type ts ≡ true → Each IsShort cs → read_each (value_at 63) ts cs ≡ Some vs → EachRead ts cs vs
each-read no_shapes [] vs good short e = record { is = (none-read (value_at 63) [] vs e).0; each = tt }
each-read no_shapes (c ∷ cs) vs good short e = absurd (no-more (none-read (value_at 63) (c ∷ cs) vs e).1)
each-read (shape t ts) [] vs good short e = absurd (not-read (value_at 63) t ts vs e)
each-read (shape t ts) (c ∷ cs) vs good short e =
    let f = first-read (value_at 63) t ts c cs vs e in
    let types = and_parts (is_type t) (all_shapes is_type ts) good in
    let value = alone 63 t c f.head (omega arith) types.0 short.0 f.reads in
    let rest = each-read ts cs f.tail types.1 short.1 f.rest in
    record {
      is = f.is ∙ ap₂ tree (sym (tree_at-is t c f.head value)) rest.is;
      each = (is-some (value_of t c) f.head value, rest.each);
    }

pub record AreParts (ts : Shapes) (bytes : List ℕ) (cs : List (List ℕ)) : Type 0 where
  pub value : value_of (Shape.tuple ts) bytes ≡ Some (Tree.tuple (each_tree ts cs))
  pub tree : tree_at (Shape.tuple ts) bytes ≡ Tree.tuple (each_tree ts cs)
  pub each : AreEach ts cs

-- a tuple is made of its members
pub tuple-parts : (ts : Shapes) (bytes : List ℕ) (cs : List (List ℕ)) → all_shapes is_type ts ≡ true → IsSome (value_of (Shape.tuple ts) bytes) → children_of (Shape.tuple ts) bytes ≡ Some cs → AreParts ts bytes cs
tuple-parts ts bytes cs good some found =
    let v = some-value (value_of (Shape.tuple ts) bytes) some in
    let a = tuple-value ts bytes v.0 v.1 in
    let read : read_each (value_at 63) ts cs ≡ Some a.0 = sym (ap (option_and_then (read_each (value_at 63) ts)) found) ∙ a.2 in
    let short = children-each IsShort short-of-parts (Shape.tuple ts) bytes cs (value-short (Shape.tuple ts) bytes v.0 v.1) found in
    let all = each-read ts cs a.0 good short read in
    let is : v.0 ≡ Tree.tuple (each_tree ts cs) = a.1 ∙ ap Tree.tuple all.is in
    record {
      value = v.1 ∙ ap (λ (x : Tree). Some x) is;
      tree = tree_at-is (Shape.tuple ts) bytes v.0 v.1 ∙ is;
      each = all.each;
    }

pub tuple-there : (ts : Shapes) (bytes : List ℕ) → IsSome (value_of (Shape.tuple ts) bytes) → IsSome (children_of (Shape.tuple ts) bytes)
tuple-there ts bytes some =
    let v = some-value (value_of (Shape.tuple ts) bytes) some in
    let a = tuple-value ts bytes v.0 v.1 in
    let c = then_some (read_each (value_at 63) ts) (children_of (Shape.tuple ts) bytes) a.0 a.2 in
    is-some (children_of (Shape.tuple ts) bytes) c.0 c.1

-- the same of a type that is known to be the tuple's
module _ (ts : Shapes) (of : Shape) (bytes : List ℕ) (is : of ≡ Shape.tuple ts) (some : IsSome (value_of (Shape.tuple ts) bytes)) where
  pub members-there : (length bytes ≤ MOST_BYTES) × IsSome (children_of of bytes)
  members-there = (checked-short (Shape.tuple ts) bytes some, subst (λ (s : Shape). IsSome (children_of s bytes)) (sym is) (tuple-there ts bytes some))

  pub parts-of : (cs : List (List ℕ)) → all_shapes is_type ts ≡ true → children_of of bytes ≡ Some cs → AreParts ts bytes cs
  parts-of cs good found = tuple-parts ts bytes cs good some (subst (λ (s : Shape). children_of s bytes ≡ Some cs) is found)

-- ---- arrays

record RowsRead (t : Shape) (cs : List (List ℕ)) (vs : Trees) : Type 0 where
  is : vs ≡ row_trees t cs
  each : AreRows t cs

rows-read : (t : Shape) (cs : List (List ℕ)) (vs : Trees) → is_type t ≡ true → Each IsShort cs → read_all (value_at 63 t) cs ≡ Some vs → RowsRead t cs vs
rows-read t [] vs good short e = record { is = cc; each = tt }
rows-read t (c ∷ cs) vs good short e =
    let f = first-of-all (value_at 63 t) c cs vs e in
    let value = alone 63 t c f.head (omega arith) good short.0 f.reads in
    let rest = rows-read t cs f.tail good short.1 f.rest in
    record {
      is = f.is ∙ ap₂ tree (sym (tree_at-is t c f.head value)) rest.is;
      each = (is-some (value_of t c) f.head value, rest.each);
    }

pub record AreItems (t : Shape) (bytes : List ℕ) (cs : List (List ℕ)) : Type 0 where
  pub items : items_in (tree_at (Shape.array t) bytes) ≡ Some (row_trees t cs)
  pub each : AreRows t cs

-- an array is made of its rows
pub array-rows : (t : Shape) (bytes : List ℕ) (cs : List (List ℕ)) → is_type t ≡ true → IsSome (value_of (Shape.array t) bytes) → elements_of (Shape.array t) bytes ≡ Some cs → AreItems t bytes cs
array-rows t bytes cs good some found =
    let v = some-value (value_of (Shape.array t) bytes) some in
    let a = array-value t bytes v.0 v.1 in
    let read : read_all (value_at 63 t) cs ≡ Some a.0 = sym (ap (option_and_then (read_all (value_at 63 t))) found) ∙ a.2 in
    let short = children-each IsShort short-of-parts (Shape.array t) bytes cs (value-short (Shape.array t) bytes v.0 v.1) found in
    let all = rows-read t cs a.0 good short read in
    record {
      items = ap items_in (tree_at-is (Shape.array t) bytes v.0 v.1 ∙ a.1) ∙ ap (λ (x : Trees). Some x) all.is;
      each = all.each;
    }

pub array-found : (t : Shape) (bytes : List ℕ) → IsSome (value_of (Shape.array t) bytes) → (cs : List (List ℕ)) × (elements_of (Shape.array t) bytes ≡ Some cs)
array-found t bytes some =
    let v = some-value (value_of (Shape.array t) bytes) some in
    let a = array-value t bytes v.0 v.1 in
    let c = then_some (read_all (value_at 63 t)) (children_of (Shape.array t) bytes) a.0 a.2 in
    (c.0, c.1)

pub array-there : (t : Shape) (bytes : List ℕ) → IsSome (value_of (Shape.array t) bytes) → IsSome (elements_of (Shape.array t) bytes)
array-there t bytes some = let c = array-found t bytes some in is-some (elements_of (Shape.array t) bytes) c.0 c.1

-- rows that are left, before any was cut
pub all-left : (t : Shape) (bytes : List ℕ) (left : Option (List (List ℕ))) → is_type t ≡ true → IsSome (value_of (Shape.array t) bytes) → elements_of (Shape.array t) bytes ≡ left → AreLeft t left
all-left t bytes left good some is =
    let c = array-found t bytes some in
    subst (AreLeft t) (sym c.1 ∙ is) (array-rows t bytes c.0 good some c.1).each

pub left-there : (t : Shape) (left : Option (List (List ℕ))) → AreLeft t left → IsSome left
left-there t None h = absurd h
left-there t (Some cs) h = refl

-- one of them, and the others
pub left-first : (t : Shape) (c : List ℕ) (left others : Option (List (List ℕ))) → left ≡ option_map (λ cs. c ∷ cs) others → AreLeft t left → IsSome (value_of t c) × AreLeft t others
left-first t c left others e h = by others (subst (AreLeft t) e h)
  where
    by : (o : Option (List (List ℕ))) → AreLeft t (option_map (λ cs. c ∷ cs) o) → IsSome (value_of t c) × AreLeft t o
    by None h = absurd h
    by (Some cs) h = h

-- the first of them, as it was told
abbrev Next : Type 0
Next = Option (Bor (List ℕ) × Elements)

pub step-taken : (o : Next) (rows : Elements) → Steps (Ok o) (elements_left rows) → GoesOn (Ok o) rows → IsStep o rows
step-taken None rows steps goes_on = steps
step-taken (Some step) rows steps goes_on = (steps, goes_on)

pub next-is : (o : Next) (row : Bor (List ℕ)) (others rows : Elements) → o ≡ Some (row, others) → IsStep o rows → IsNext row others rows
next-is o row others rows is h = subst (λ (s : Next). IsStep s rows) is h

pub none-is : (o : Next) (rows : Elements) → o ≡ None → IsStep o rows → elements_left rows ≡ Some []
none-is o rows is h = subst (λ (s : Next). IsStep s rows) is h

-- ---- what rows say, where all of it passes a test

map-more : {X A : Type 0} (view : X → A) (xs : List X) (x : X) → map view (xs ++ x ∷ []) ≡ map view xs ++ view x ∷ []
map-more view [] x = refl
map-more view (y ∷ xs) x = ap (λ l. view y ∷ l) (map-more view xs x)

module _ {A : Type 0} (test : A → Bool) (one : Tree → Option A) (t : Shape) where
  -- one row passes, or doesn't
  row-passes : (c : List ℕ) (a : A) (others : Option (List (List ℕ))) → option_and_then (passing test) (one (tree_at t c)) ≡ Some a
      → rows_passing test one t (option_map (λ cs. c ∷ cs) others) ≡ option_map (λ found. a ∷ found) (rows_passing test one t others)
  row-passes c a None is = refl
  row-passes c a (Some cs) is =
      let x = then_some (passing test) (one (tree_at t c)) a is in
      ap (λ (o : Option A). option_and_then (only test) (option_and_then (λ b. option_map (λ bs. b ∷ bs) (each_of one (row_trees t cs))) o)) x.1
      ∙ by x.0 x.2 (each_of one (row_trees t cs))
    where
      by : (x : A) → passing test x ≡ Some a → (o : Option (List A)) → option_and_then (only test) (option_map (λ bs. x ∷ bs) o) ≡ option_map (λ found. a ∷ found) (option_and_then (only test) o)
      by x e None = refl
      by x e (Some xs) = ap (option_and_then (λ b. option_map (λ bs. b ∷ bs) (only test xs))) e

  row-fails : (c : List ℕ) (others : Option (List (List ℕ))) → option_and_then (passing test) (one (tree_at t c)) ≡ None → rows_passing test one t (option_map (λ cs. c ∷ cs) others) ≡ None
  row-fails c None is = refl
  row-fails c (Some cs) is = by (one (tree_at t c)) is (each_of one (row_trees t cs))
    where
      by : (r : Option A) → option_and_then (passing test) r ≡ None → (o : Option (List A)) → option_and_then (only test) (option_and_then (λ b. option_map (λ bs. b ∷ bs) o) r) ≡ None
      by None e o = refl
      by (Some x) e None = refl
      by (Some x) e (Some xs) = ap (option_and_then (λ b. option_map (λ bs. b ∷ bs) (only test xs))) e

  module _ {X : Type 0} (view : X → A) (xs : List X) (c : List ℕ) (left others : Option (List (List ℕ))) (whole : Option (List A))
      (so_far : remainder (map view xs) (rows_passing test one t left) ≡ whole) (e : left ≡ option_map (λ cs. c ∷ cs) others) where
    pub rows-more : (x : X) → option_and_then (passing test) (one (tree_at t c)) ≡ Some (view x) → remainder (map view (xs ++ x ∷ [])) (rows_passing test one t others) ≡ whole
    rows-more x is =
        ap (λ (before : List A). remainder before (rows_passing test one t others)) (map-more view xs x)
        ∙ sym (remainder_one (map view xs) (view x) (rows_passing test one t others))
        ∙ sym (ap (remainder (map view xs)) (ap (rows_passing test one t) e ∙ row-passes c (view x) others is)) ∙ so_far

    pub rows-miss : (rule : Rule) (x : ObjectError) → Misses rule x (option_and_then (passing test) (one (tree_at t c))) → Misses rule x whole
    rows-miss rule (errors.Malformed broken) h = (h.0, sym so_far ∙ ap (remainder (map view xs)) (ap (rows_passing test one t) e ∙ row-fails c others h.1))
    rows-miss rule errors.NoMemory h = tt

  pub rows-end : {X : Type 0} (view : X → A) (xs : List X) (left : Option (List (List ℕ))) (whole : Option (List A)) → remainder (map view xs) (rows_passing test one t left) ≡ whole → left ≡ Some [] → whole ≡ Some (map view xs)
  rows-end view xs left whole so_far e = sym so_far ∙ ap (λ (o : Option (List (List ℕ))). remainder (map view xs) (rows_passing test one t o)) e ∙ remainder_all (map view xs)

  -- the rows of an array say what the array says
  pub array-passes : (bytes : List ℕ) (left : Option (List (List ℕ))) → is_type t ≡ true → IsSome (value_of (Shape.array t) bytes) → elements_of (Shape.array t) bytes ≡ left →
      rows_passing test one t left ≡ option_and_then (only test) (option_and_then (each_of one) (items_in (tree_at (Shape.array t) bytes)))
  array-passes bytes left good some is =
      let c = array-found t bytes some in
      ap (rows_passing test one t) (sym is ∙ c.1) ∙ sym (ap (λ (o : Option Trees). option_and_then (only test) (option_and_then (each_of one) o)) (array-rows t bytes c.0 good some c.1).items)

-- ---- that rows say something

module _ {A : Type 0} (one : Tree → Option A) (t : Shape) (each : (c : List ℕ) → AllBelow 256 c → IsSome (value_of t c) → IsSome (one (tree_at t c))) where
  rows-said : (cs : List (List ℕ)) → Each (AllBelow 256) cs → AreRows t cs → IsSome (each_of one (row_trees t cs))
  rows-said [] below h = refl
  rows-said (c ∷ cs) below h =
      let a = some-value (one (tree_at t c)) (each c below.0 h.0) in
      let rest = some-value (each_of one (row_trees t cs)) (rows-said cs below.1 h.1) in
      ap is_some (ap₂ (λ (o : Option A) (r : Option (List A)). option_and_then (λ b. option_map (λ bs. b ∷ bs) r) o) a.1 rest.1)

  pub array-said : (bytes : List ℕ) → AllBelow 256 bytes → is_type t ≡ true → IsSome (value_of (Shape.array t) bytes) → (xs : List A) × (option_and_then (each_of one) (items_in (tree_at (Shape.array t) bytes)) ≡ Some xs)
  array-said bytes below good some =
      let c = array-found t bytes some in
      let rows = array-rows t bytes c.0 good some c.1 in
      let each_below = children-each (AllBelow 256) bytes-of-parts (Shape.array t) bytes c.0 below c.1 in
      let xs = some-value (each_of one (row_trees t c.0)) (rows-said c.0 each_below rows.each) in
      (xs.0, ap (option_and_then (each_of one)) rows.items ∙ xs.1)

-- ---- texts and bytes

at-depth : (t : Shape) (bytes : List ℕ) (v : Tree) → value_of t bytes ≡ Some v → value_at MOST_DEPTH t bytes ≡ Some v
at-depth t bytes v e = (guarded (is_type t && leb (length bytes) MOST_BYTES) (value_at MOST_DEPTH t bytes) v e).1

pub text-said : (bytes : List ℕ) → IsSome (value_of text_shape bytes) → text_in (tree_at text_shape bytes) ≡ Some (text_at bytes)
text-said bytes some =
    let v = some-value (value_of text_shape bytes) some in
    ap text_in (tree_at-is text_shape bytes v.0 v.1) ∙ text-field bytes v.0 (value-short text_shape bytes v.0 v.1) (at-depth text_shape bytes v.0 v.1)

pub bytes-said : (bytes : List ℕ) → AllBelow 256 bytes → IsSome (value_of bytes_shape bytes) → bytes_in (tree_at bytes_shape bytes) ≡ Some bytes
bytes-said bytes below some =
    let v = some-value (value_of bytes_shape bytes) some in
    let is : Some v.0 ≡ Some (Tree.array (byte_trees bytes)) = sym (at-depth bytes_shape bytes v.0 v.1) ∙ byte_array-read 63 bytes below in
    let same : v.0 ≡ Tree.array (byte_trees bytes) = cc is in
    ap bytes_in (tree_at-is bytes_shape bytes v.0 v.1 ∙ same) ∙ bytes_back bytes

-- ---- extended attributes

none-of-rows : (t : Shape) (cs : List (List ℕ)) (c : List ℕ) (others : Option (List (List ℕ))) → Some cs ≡ option_map (λ ds. c ∷ ds) others → are_none (row_trees t cs) ≡ false
none-of-rows t cs c None e = absurd (cc e)
none-of-rows t cs c (Some ds) e = let same : cs ≡ c ∷ ds = cc e in ap (λ (xs : List (List ℕ)). are_none (row_trees t xs)) same

module _ (t : Shape) (bytes : List ℕ) (left : Option (List (List ℕ))) (good : is_type t ≡ true) (some : IsSome (value_of (Shape.array t) bytes)) (is : elements_of (Shape.array t) bytes ≡ left) where
  array-bare : left ≡ Some [] → option_map are_none (items_in (tree_at (Shape.array t) bytes)) ≡ Some true
  array-bare e = ap (option_map are_none) (array-rows t bytes [] good some (is ∙ e)).items

  array-full : (c : List ℕ) (others : Option (List (List ℕ))) → left ≡ option_map (λ cs. c ∷ cs) others → option_map are_none (items_in (tree_at (Shape.array t) bytes)) ≡ Some false
  array-full c others e =
      let found = array-found t bytes some in
      ap (option_map are_none) (array-rows t bytes found.0 good some found.1).items
      ∙ ap (λ (b : Bool). Some b) (none-of-rows t found.0 c others (sym found.1 ∙ is ∙ e))

  -- whether there is a first row says it
  pub array-emptied : (o : Next) (rows : Elements) (b : Bool) → left ≡ elements_left rows → IsStep o rows → is_some o ≡ not b → option_map are_none (items_in (tree_at (Shape.array t) bytes)) ≡ Some b
  array-emptied None rows true e step h = array-bare (e ∙ step)
  array-emptied None rows false e step h = absurd (false≢true h)
  array-emptied (Some s) rows false e step h = array-full s.0.now (elements_left s.1) (e ∙ step.0)
  array-emptied (Some s) rows true e step h = absurd (false≢true (sym h))
