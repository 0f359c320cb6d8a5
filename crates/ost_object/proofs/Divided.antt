-- The entries of a commit's metadata, by their bytes.
use Rattle.std.specs.Prelude.{if◌then◌else◌, Result, Ok, Err}
use Rattle.std.proofs.Common.{◌≡◌, ℕ, ◌≤◌, Bool, true, false, List, [], ◌∷◌, length, map, Option, Some, None, IsErrAnd, option_map, option_and_then, refl, sym, ap, ap₂, ◌∙◌, subst, arith}
use Rattle.std.specs.Option.{is_some, IsSome}
use Rattle.gv_value.specs.declared.basic.Basic.TheVariants as basics
use Rattle.gv_value.specs.Reading.{read_all, read_each, value_at, value_of, as_entry, parted}
use Rattle.gv_value.specs.Shape.{Shape, Shapes, no_shapes, shape, is_type}
use Rattle.gv_value.specs.Spelled.{two_shapes}
use Rattle.gv_value.specs.Tree.{Tree, Trees, no_trees, tree, nothing}
use Rattle.gv_value.specs.TypeText.{type_of, type_text}
use Rattle.gv_value.proofs.Exact.{reads_types}
use Rattle.gv_value.proofs.Lists.{then_some, map_some}
use Rattle.gv_decode.specs.Decoded.{children_of}
use Rattle.gv_decode.proofs.Contained.{alone, value-short, array-value, entry-value, variant-value, unparted-value, first-read, none-read, not-read, first-of-all}
use Rattle.gv_decode.proofs.Short.{Each, IsShort, children-each, short-of-parts}
use Rattle.ost_model.specs.Types.{text_shape, dictionary_shape}
use Rattle.ost_model.specs.Fields.{text_in, items_in, each_of}
use Rattle.ost_model.specs.Binding.{are_texts, is_text, texts_in}
use Rattle.fp_base.specs.declared.rule.Rule.TheVariants as rules
use Rattle.ost_object.specs.declared.error.ObjectError.{ObjectError}
use Rattle.ost_object.specs.declared.error.ObjectError.TheVariants as errors
use Rattle.ost_object.specs.Answers.{Finds, Misses}
use Rattle.ost_object.specs.Entries.{entry_shape, entry_trees, pair_tree, AreEntries, IsDivided, Undivided, Divides}
use Rattle.ost_object.specs.Views.{tree_at}
use Rattle.ost_object.proofs.Kept.{tree_at-is, tree_at-none, some-value}

-- ---- entries

record Entries (cs : List (List ℕ)) (vs : Trees) : Type 0 where
  is : vs ≡ entry_trees cs
  each : AreEntries cs

all-entries : (cs : List (List ℕ)) (vs : Trees) → Each IsShort cs → read_all (value_at 63 entry_shape) cs ≡ Some vs → Entries cs vs
all-entries [] vs short e = record { is = cc; each = tt }
all-entries (c ∷ cs) vs short e =
    let f = first-of-all (value_at 63 entry_shape) c cs vs e in
    let value = alone 63 entry_shape c f.head (omega arith) refl short.0 f.reads in
    let rest = all-entries cs f.tail short.1 f.rest in
    record {
      is = f.is ∙ ap₂ tree (sym (tree_at-is entry_shape c f.head value)) rest.is;
      each = (ap is_some value, rest.each);
    }

pub divided : (bytes : List ℕ) (cs : List (List ℕ)) → IsSome (value_of dictionary_shape bytes) → children_of dictionary_shape bytes ≡ Some cs → IsDivided cs bytes
divided bytes cs some found =
    let v = some-value (value_of dictionary_shape bytes) some in
    let a = array-value entry_shape bytes v.0 v.1 in
    let read : read_all (value_at 63 entry_shape) cs ≡ Some a.0 = sym (ap (option_and_then (read_all (value_at 63 entry_shape))) found) ∙ a.2 in
    let short = children-each IsShort short-of-parts dictionary_shape bytes cs (value-short dictionary_shape bytes v.0 v.1) found in
    let all = all-entries cs a.0 short read in
    record { value = tree_at-is dictionary_shape bytes v.0 v.1 ∙ a.1 ∙ ap Tree.array all.is; each = all.each }

-- a dictionary without children is none
pub undivided : (bytes : List ℕ) → children_of dictionary_shape bytes ≡ None → tree_at dictionary_shape bytes ≡ nothing
undivided bytes none = tree_at-none dictionary_shape bytes (by (value_of dictionary_shape bytes) refl)
  where
    by : (o : Option Tree) → value_of dictionary_shape bytes ≡ o → o ≡ None
    by None e = refl
    by (Some v) e = let a = array-value entry_shape bytes v e in absurd (no (sym (ap (option_and_then (read_all (value_at 63 entry_shape))) none) ∙ a.2))
      where
        no : {A : Type 0} {x : A} → None ≡ Some x → ⊥
        no h = cc

-- an error that is handed on
pub divides-err : {X : Type 0} (view : X → List (List ℕ)) (r : Result X ObjectError) (e : ObjectError) (bytes : List ℕ) → IsErrAnd r (λ x. x ≡ e) → Undivided e bytes → Divides view r bytes
divides-err view (Ok x) e bytes h f = absurd h
divides-err view (Err x) e bytes h f = subst (λ (y : ObjectError). Undivided y bytes) (sym h) f

pub undivided-value : (e : ObjectError) (bytes : List ℕ) → Misses rules.Value e (value_of dictionary_shape bytes) → Undivided e bytes
undivided-value (errors.Malformed rule) bytes h = tree_at-none dictionary_shape bytes h.1
undivided-value errors.NoMemory bytes h = tt

pub divides-children : {X : Type 0} (view : X → List (List ℕ)) (r : Result X ObjectError) (bytes : List ℕ) → IsSome (value_of dictionary_shape bytes) →
    Finds view r (children_of dictionary_shape bytes) → Divides view r bytes
divides-children view (Ok x) bytes some h = divided bytes (view x) some h
divides-children view (Err (errors.Malformed rule)) bytes some h = undivided bytes h.1
divides-children view (Err errors.NoMemory) bytes some h = tt

-- ---- one entry

abbrev kind_pair : Shapes
kind_pair = two_shapes text_shape Shape.variant

two-read : (ms : List (List ℕ)) (us : Trees) (v : Tree) → Each IsShort ms → read_each (value_at 63) kind_pair ms ≡ Some us → as_entry us ≡ Some v → v ≡ pair_tree ms
two-read [] us v short e is = absurd (not-read (value_at 63) text_shape (shape Shape.variant no_shapes) us e)
two-read (k ∷ []) us v short e is = let f = first-read (value_at 63) text_shape (shape Shape.variant no_shapes) k [] us e in absurd (not-read (value_at 63) Shape.variant no_shapes f.tail f.rest)
two-read (k ∷ w ∷ []) us v short e is =
    let f = first-read (value_at 63) text_shape (shape Shape.variant no_shapes) k (w ∷ []) us e in
    let g = first-read (value_at 63) Shape.variant no_shapes w [] f.tail f.rest in
    let end = none-read (value_at 63) [] g.tail g.rest in
    let key = tree_at-is text_shape k f.head (alone 63 text_shape k f.head (omega arith) refl short.0 f.reads) in
    let value = tree_at-is Shape.variant w g.head (alone 63 Shape.variant w g.head (omega arith) refl short.1.0 g.reads) in
    let same : us ≡ tree f.head (tree g.head no_trees) = f.is ∙ ap (tree f.head) (g.is ∙ ap (tree g.head) end.0) in
    let found : Some (Tree.entry f.head g.head) ≡ Some v = sym (ap as_entry same) ∙ is in
    let here : Tree.entry f.head g.head ≡ v = cc found in
    sym here ∙ ap₂ Tree.entry (sym key) (sym value)
two-read (k ∷ w ∷ x ∷ ms) us v short e is =
    let f = first-read (value_at 63) text_shape (shape Shape.variant no_shapes) k (w ∷ x ∷ ms) us e in
    let g = first-read (value_at 63) Shape.variant no_shapes w (x ∷ ms) f.tail f.rest in
    absurd (no_more (none-read (value_at 63) (x ∷ ms) g.tail g.rest).1)
  where
    no_more : x ∷ ms ≡ [] → ⊥
    no_more h = cc

pub pair-of : (c : List ℕ) (ms : List (List ℕ)) → IsSome (value_of entry_shape c) → children_of entry_shape c ≡ Some ms → tree_at entry_shape c ≡ pair_tree ms
pair-of c ms some found =
    let v = some-value (value_of entry_shape c) some in
    let a = entry-value text_shape Shape.variant c v.0 v.1 in
    let read : read_each (value_at 63) kind_pair ms ≡ Some a.0 = sym (ap (option_and_then (read_each (value_at 63) kind_pair)) found) ∙ a.2 in
    let short = children-each IsShort short-of-parts entry_shape c ms (value-short entry_shape c v.0 v.1) found in
    tree_at-is entry_shape c v.0 v.1 ∙ two-read ms a.0 v.0 short read a.1

pub no-pair : (c : List ℕ) → IsSome (value_of entry_shape c) → children_of entry_shape c ≡ None → ⊥
no-pair c some none =
    let v = some-value (value_of entry_shape c) some in
    let a = entry-value text_shape Shape.variant c v.0 v.1 in
    no (sym (ap (option_and_then (read_each (value_at 63) kind_pair)) none) ∙ a.2)
  where
    no : {A : Type 0} {x : A} → None ≡ Some x → ⊥
    no h = cc

-- ---- variants of another type

text-shaped : (t : Shape) → is_text t ≡ true → t ≡ Shape.basic basics.Str
text-shaped (Shape.basic basics.Str) e = refl
text-shaped _ e = absurd cc

texts-shaped : (t : Shape) → are_texts t ≡ true → t ≡ Shape.array (Shape.basic basics.Str)
texts-shaped (Shape.array t) e = ap Shape.array (text-shaped t e)
texts-shaped _ e = absurd cc

not-texts : (t : Shape) (v : Tree) → are_texts t ≡ false → texts_in (Tree.variant t v) ≡ None
not-texts t v e = ap (λ (b : Bool). if b then option_and_then (each_of text_in) (items_in v) else None) e

-- what a variant of another type than `as` says
pub other-type : (bytes front text : List ℕ) → parted bytes ≡ Some (front, text) → (text ≡ 97 ∷ 115 ∷ [] → ⊥) → texts_in (tree_at Shape.variant bytes) ≡ None
other-type bytes front text parts other = by (value_of Shape.variant bytes) refl
  where
    typed : (t : Shape) (v : Tree) → type_of text ≡ Some t → (b : Bool) → are_texts t ≡ b → texts_in (Tree.variant t v) ≡ None
    typed t v is false e = not-texts t v e
    typed t v is true e = absurd (other (((reads_types text t).0 is).0 ∙ ap type_text (texts-shaped t e)))

    by : (o : Option Tree) → value_of Shape.variant bytes ≡ o → texts_in (tree_at Shape.variant bytes) ≡ None
    by None e = ap texts_in (tree_at-none Shape.variant bytes e)
    by (Some v) e =
        let w = variant-value bytes v front text e parts in
        ap texts_in (tree_at-is Shape.variant bytes v e ∙ w.2) ∙ typed w.0 w.1 w.3 (are_texts w.0) refl

-- and bytes that don't part
pub not-parted : (bytes : List ℕ) → parted bytes ≡ None → texts_in (tree_at Shape.variant bytes) ≡ None
not-parted bytes none = by (value_of Shape.variant bytes) refl
  where
    by : (o : Option Tree) → value_of Shape.variant bytes ≡ o → texts_in (tree_at Shape.variant bytes) ≡ None
    by None e = ap texts_in (tree_at-none Shape.variant bytes e)
    by (Some v) e = absurd (unparted-value bytes v e none)
