-- What passes of each form of type.
use Rattle.std.proofs.Common.{◌≡◌, ℕ, suc, ◌-◌, Bool, true, false, List, [], ◌∷◌, length, Option, Some, None, option_map, option_and_then, Result, Ok, Err, IsErrAnd, refl, sym, ap, ◌∙◌, subst}
use Rattle.std.specs.Option.{is_some, IsSome}
use Rattle.gv_value.specs.declared.basic.Basic.TheVariants as basics
use Rattle.gv_value.specs.declared.plan.Plan.{Plan}
use Rattle.gv_value.specs.Bytes.{AllBelow}
use Rattle.gv_value.specs.Framing.{array_children, tuple_children}
use Rattle.gv_value.specs.Layout.{align_of, size_of}
use Rattle.gv_value.specs.Plans.{plan_shape}
use Rattle.gv_value.specs.Reading.{Reader, as_entry, value_at, maybe_at, variant_at, read_all, read_each, parted}
use Rattle.gv_value.specs.Shape.{Shape, Shapes, no_shapes, shape}
use Rattle.gv_value.specs.Spelled.{two_shapes}
use Rattle.gv_value.specs.Tree.{Tree, Trees, no_trees, tree}
use Rattle.gv_value.specs.TypeText.{type_of}
use Rattle.gv_value.proofs.Lists.{then_some, map_some}
use Rattle.gv_decode.specs.declared.error.DecodeError.{DecodeError}
use Rattle.gv_decode.specs.Decoded.{Fails, Passes, child_bytes}
use Rattle.gv_decode.proofs.Contained.{first-read, none-read, not-read}
use Rattle.gv_decode.proofs.OneByOne.{passes-map}
use Rattle.gv_decode.proofs.Rooms.{members_at, entry-fails, byte_array-read}
use Rattle.gv_decode.proofs.Runs.{fails-more}

pub passes-same : {X Y : Type 0} (r : Result X DecodeError) (a b : Option Y) → a ≡ b → Passes r a → Passes r b
passes-same r a b e h = subst (λ (o : Option _). Passes r o) e h

-- an error that is handed on
pub passes-err : {X Y : Type 0} (r : Result X DecodeError) (e : DecodeError) (read : Option Y) → IsErrAnd r (λ x. x ≡ e) → Fails e read → Passes r read
passes-err (Ok x) e read h f = absurd h
passes-err (Err x) e read h f = subst (λ (y : DecodeError). Fails y read) (sym h) f

pub passes-form : {X A B : Type 0} (f : A → B) (r : Result X DecodeError) (o : Option A) → Passes r o → Passes r (option_map f o)
passes-form f (Ok x) o h = passes-map f o h
passes-form f (Err e) o h = fails-more e o (option_map f o) (λ none. ap (option_map f) none) h

-- ---- a step after one that was taken

pub passes-then : {X A B : Type 0} (f : A → Option B) (r : Result X DecodeError) (o : Option A) (x : A) → o ≡ Some x → Passes r (f x) → Passes r (option_and_then f o)
passes-then f r o x e h = passes-same r (f x) (option_and_then f o) (sym (ap (option_and_then f) e)) h

-- ---- dictionary entries

two-trees : (n : ℕ) (k w : Shape) (cs : List (List ℕ)) (vs : Trees) → read_each (value_at n) (two_shapes k w) cs ≡ Some vs → IsSome (as_entry vs)
two-trees n k w [] vs e = absurd (not-read (value_at n) k (shape w no_shapes) vs e)
two-trees n k w (c ∷ []) vs e = let f = first-read (value_at n) k (shape w no_shapes) c [] vs e in absurd (not-read (value_at n) w no_shapes f.tail f.rest)
two-trees n k w (c ∷ d ∷ cs) vs e =
    let f = first-read (value_at n) k (shape w no_shapes) c (d ∷ cs) vs e in
    let g = first-read (value_at n) w no_shapes d cs f.tail f.rest in
    let end = none-read (value_at n) cs g.tail g.rest in
    ap (λ (x : Trees). is_some (as_entry x)) (f.is ∙ ap (tree f.head) (g.is ∙ ap (tree g.head) end.0))

two-members : (n : ℕ) (k w : Shape) (bytes : List ℕ) (o : Option Trees) → members_at n (two_shapes k w) bytes ≡ o → IsSome o → IsSome (option_and_then as_entry o)
two-members n k w bytes None e h = absurd cc
two-members n k w bytes (Some vs) e h =
    let c = then_some (read_each (value_at n) (two_shapes k w)) (tuple_children (size_of (Shape.tuple (two_shapes k w))) (two_shapes k w) bytes) vs e in
    two-trees n k w c.0 vs c.2

pub passes-entry : {X : Type 0} (r : Result X DecodeError) (n : ℕ) (k w : Shape) (bytes : List ℕ) → Passes r (members_at n (two_shapes k w) bytes) → Passes r (value_at (suc n) (Shape.entry k w) bytes)
passes-entry (Ok x) n k w bytes h = two-members n k w bytes (members_at n (two_shapes k w) bytes) refl h
passes-entry (Err e) n k w bytes h = entry-fails e n k w bytes h

-- ---- arrays of bytes

pub bytes-pass : (n : ℕ) (p : Plan) (bytes : List ℕ) → AllBelow 256 bytes → plan_shape p ≡ Shape.basic basics.Byte →
    IsSome (option_and_then (read_all (value_at n (plan_shape p))) (array_children (align_of (plan_shape p)) (size_of (plan_shape p)) bytes))
bytes-pass n p bytes h is =
    let read : value_at (suc n) (Shape.array (Shape.basic basics.Byte)) bytes ≡ Some _ = byte_array-read n bytes h in
    let m = map_some Tree.array (option_and_then (read_all (value_at n (Shape.basic basics.Byte))) (array_children (align_of (Shape.basic basics.Byte)) (size_of (Shape.basic basics.Byte)) bytes)) _ read in
    ap (λ (t : Shape). is_some (option_and_then (read_all (value_at n t)) (array_children (align_of t) (size_of t) bytes))) is ∙ ap is_some m.1

-- ---- maybes

pub nothing-passes : (one : Reader) (o : Option ℕ) (bytes : List ℕ) → length bytes ≡ 0 → IsSome (maybe_at one o bytes)
nothing-passes one o [] e = refl
nothing-passes one o (b ∷ bytes) e = absurd cc

pub just-passes : {X : Type 0} (one : Reader) (o : Option ℕ) (bytes inside : List ℕ) (r : Result X DecodeError) → (length bytes ≡ 0 → ⊥) → child_bytes o bytes ≡ Some inside → Passes r (one inside) → Passes r (maybe_at one o bytes)
just-passes one o [] inside r some e h = absurd (some refl)
just-passes one (Some size) (b ∷ bytes) inside r some e h =
    let same : b ∷ bytes ≡ inside = cc in passes-form Tree.just r (one (b ∷ bytes)) (passes-same r (one inside) (one (b ∷ bytes)) (ap one (sym same)) h)
just-passes one None (b ∷ bytes) inside r some e h =
    passes-form Tree.just r (option_and_then one (child_bytes None (b ∷ bytes))) (passes-then one r (child_bytes None (b ∷ bytes)) inside e h)

pub just-fails : (one : Reader) (o : Option ℕ) (bytes : List ℕ) (e : DecodeError) → (length bytes ≡ 0 → ⊥) → Fails e (child_bytes o bytes) → Fails e (maybe_at one o bytes)
just-fails one o [] e some f = absurd (some refl)
just-fails one (Some size) (b ∷ bytes) e some f = fails-more e (child_bytes (Some size) (b ∷ bytes)) (maybe_at one (Some size) (b ∷ bytes)) (λ none. absurd (not-none none)) f
  where
    not-none : Some (b ∷ bytes) ≡ None → ⊥
    not-none h = cc
just-fails one None (b ∷ bytes) e some f = fails-more e (child_bytes None (b ∷ bytes)) (maybe_at one None (b ∷ bytes)) (λ none. ap (λ (o : Option (List ℕ)). option_map Tree.just (option_and_then one o)) none) f
