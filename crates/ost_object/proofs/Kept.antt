-- Values that are kept as bytes.
use Rattle.std.proofs.Common.{◌≡◌, ℕ, suc, ◌≤◌, ◌<◌, ◌&&◌, Bool, true, List, [], ◌∷◌, ◌-◌, length, Option, Some, None, option_map, option_and_then, refl, sym, ap, ◌∙◌, subst, arith, bytes_eq}
use Rattle.std.proofs.lemmas.Option.{same_Some}
use Rattle.std.specs.Prelude.{unwrap_or, Result, Ok, Err}
use Rattle.std.specs.Option.{is_some, IsSome}
use Rattle.std.specs.Int.{w64}
use Rattle.gv_value.specs.declared.basic.Basic.TheVariants as basics
use Rattle.gv_value.specs.declared.value.GvValue.{GvValue}
use Rattle.gv_value.specs.Basics.{string}
use Rattle.gv_value.specs.Bytes.{AllBelow}
use Rattle.gv_value.specs.Reading.{value_at, value_of, number_at, text_if, before_zero, content_at}
use Rattle.gv_value.specs.Reading as reading
use Rattle.gv_value.specs.Shape.{Shape, is_type}
use Rattle.gv_value.specs.Spelled.{Spelled}
use Rattle.gv_value.specs.Texts.{is_text}
use Rattle.gv_value.specs.Tree.{Content, Tree, nothing, byte_trees}
use Rattle.gv_value.specs.Views.{plain}
use Rattle.gv_value.proofs.Lists.{then_some, map_some}
use Rattle.gv_decode.proofs.Contained.{alone}
use Rattle.gv_decode.proofs.Rooms.{byte_array-read}
use Rattle.ost_model.specs.Contents.{bytes_shape}
use Rattle.ost_model.specs.Types.{text_shape}
use Rattle.ost_model.specs.Fields.{bytes_in, text_in, time_in}
use Rattle.ost_model.specs.Binding.{same_text, is_named, binding_name}
use Rattle.fp_base.specs.declared.rule.Rule.TheVariants as rules
use Rattle.fp_base.proofs.Options.{guarded}
use Rattle.ost_object.specs.declared.error.ObjectError.{ObjectError}
use Rattle.ost_object.specs.declared.error.ObjectError.TheVariants as errors
use Rattle.ost_object.specs.Answers.{Finds}
use Rattle.ost_object.specs.Decodes.{Decodes}
use Rattle.ost_object.specs.Views.{tree_at, text_at, time_at}
use Rattle.ost_model.specs.Types.{time_shape}
use Rattle.ost_object.proofs.Rows.{bytes_back}

pub tree_at-is : (t : Shape) (bytes : List ℕ) (v : Tree) → value_of t bytes ≡ Some v → tree_at t bytes ≡ v
unfolding tree_at
tree_at-is t bytes v e = ap (λ (o : Option Tree). unwrap_or o nothing) e

pub tree_at-none : (t : Shape) (bytes : List ℕ) → value_of t bytes ≡ None → tree_at t bytes ≡ nothing
unfolding tree_at
tree_at-none t bytes e = ap (λ (o : Option Tree). unwrap_or o nothing) e

pub some-value : {A : Type 0} (o : Option A) → IsSome o → (x : A) × (o ≡ Some x)
some-value None h = absurd cc
some-value (Some x) h = (x, refl)

-- ---- what is kept of an array has bytes, or is none

no_nothing : (t : Shape) (bytes : List ℕ) → Spelled (Shape.array t) nothing bytes → ⊥
no_nothing t bytes h = h.value

pub decodes : (t : Shape) (bytes : List ℕ) (r : Result GvValue ObjectError) → Finds plain r (value_of (Shape.array t) bytes) → Decodes r (Shape.array t) (tree_at (Shape.array t) bytes)
decodes t bytes (Ok value) h = sym (tree_at-is (Shape.array t) bytes (plain value) h)
decodes t bytes (Err (errors.Malformed rule)) h =
    (h.0, subst (λ (v : Tree). (b : List ℕ) → Spelled (Shape.array t) v b → ⊥) (sym (tree_at-none (Shape.array t) bytes h.1)) (no_nothing t))
decodes t bytes (Err errors.NoMemory) h = tt

-- ---- fields in a commit

pub bytes-field : (bytes : List ℕ) (v : Tree) → AllBelow 256 bytes → value_at 63 bytes_shape bytes ≡ Some v → bytes_in v ≡ Some bytes
bytes-field bytes v below e =
    let is : Tree.array (byte_trees bytes) ≡ v = same_Some _ v (sym (byte_array-read 62 bytes below) ∙ e) in
    ap bytes_in (sym is) ∙ bytes_back bytes

text-leaf : (bytes : List ℕ) (v : Tree) → value_at 63 text_shape bytes ≡ Some v → (text : List ℕ) × (text_in v ≡ Some text)
text-leaf bytes v e =
    let leaf = map_some (Tree.leaf basics.Str) (reading.text_at string bytes) v e in
    let text = then_some (text_if string) (before_zero (length bytes - 1) bytes) leaf.0 leaf.1 in
    let is = guarded (is_text string text.0) (Some (Content.text text.0)) leaf.0 text.2 in
    let same : Content.text text.0 ≡ leaf.0 = same_Some _ leaf.0 is.1 in
    (text.0, ap text_in (sym leaf.2) ∙ ap (λ (c : Content). text_in (Tree.leaf basics.Str c)) (sym same))

pub text-field : (bytes : List ℕ) (v : Tree) → length bytes ≤ 16777216 → value_at 63 text_shape bytes ≡ Some v → text_in v ≡ Some (text_at bytes)
text-field bytes v short e =
    let t = text-leaf bytes v e in
    let here : option_and_then text_in (value_of text_shape bytes) ≡ text_in v = ap (option_and_then text_in) (alone 63 text_shape bytes v (omega arith) refl short e) in
    t.1 ∙ sym (ap (λ (o : Option (List ℕ)). Some (unwrap_or o [])) (here ∙ t.1))

time-leaf : (bytes : List ℕ) (v : Tree) → value_at 63 time_shape bytes ≡ Some v → (time : ℕ) × (time_in v ≡ Some time)
time-leaf bytes v e =
    let leaf = map_some (Tree.leaf basics.Uint64) (option_map Content.number (number_at 8 bytes)) v e in
    let number = map_some Content.number (number_at 8 bytes) leaf.0 leaf.1 in
    (_, ap time_in (sym leaf.2) ∙ ap (λ (c : Content). time_in (Tree.leaf basics.Uint64 c)) (sym number.2))

pub time-field : (bytes : List ℕ) (v : Tree) → length bytes ≤ 16777216 → value_at 63 time_shape bytes ≡ Some v → time_in v ≡ Some (time_at bytes)
time-field bytes v short e =
    let t = time-leaf bytes v e in
    let here : option_and_then time_in (value_of time_shape bytes) ≡ time_in v = ap (option_and_then time_in) (alone 63 time_shape bytes v (omega arith) refl short e) in
    t.1 ∙ sym (ap (λ (o : Option ℕ). Some (unwrap_or o 0)) (here ∙ t.1))

-- ---- the name of a binding

same-none : (o : Option (List ℕ)) → bytes_eq (unwrap_or o []) binding_name ≡ same_text binding_name o
same-none None = refl
same-none (Some text) = refl

pub named-key : (key : List ℕ) → bytes_eq (text_at key) binding_name ≡ is_named binding_name (tree_at text_shape key)
named-key key = by (value_of text_shape key) refl
  where
    by : (o : Option Tree) → value_of text_shape key ≡ o → bytes_eq (text_at key) binding_name ≡ is_named binding_name (tree_at text_shape key)
    by None e =
        ap (λ (o : Option Tree). bytes_eq (unwrap_or (option_and_then text_in o) []) binding_name) e ∙ sym (ap (is_named binding_name) (tree_at-none text_shape key e))
    by (Some v) e =
        ap (λ (o : Option Tree). bytes_eq (unwrap_or (option_and_then text_in o) []) binding_name) e ∙ same-none (text_in v) ∙ sym (ap (is_named binding_name) (tree_at-is text_shape key v e))
