-- What a type and a value stand for, variant by variant.
use Rattle.std.proofs.Common.{◌≡◌, ℕ, ℤ, Bool, List, Option, Some, None, sym, ap, ◌∙◌, Vec, Box, Global}
use Rattle.gv_value.specs.declared.basic.Basic.TheVariants as basics
use Rattle.gv_value.specs.declared.types.GvType.{GvType, GvType-F, fold-roll-GvType}
use Rattle.gv_value.specs.declared.types.GvType.TheVariants as types
use Rattle.gv_value.specs.declared.value.GvValue.{GvValue, GvValue-F, fold-roll-GvValue}
use Rattle.gv_value.specs.declared.value.GvValue.TheVariants as values
use Rattle.gv_value.specs.Shape.{Shape}
use Rattle.gv_value.specs.Tree.{Content, Tree, byte_trees}
use Rattle.gv_value.specs.Views.{shape_of, shapes_of, shape_step, plain, plains, plain_step}

pub shape-Bool : shape_of types.Bool ≡ Shape.basic basics.Bool
shape-Bool = ap shape_of (sym types.rolls-Bool) ∙ fold-roll-GvType Shape shape_step GvType-F.Bool

pub shape-Byte : shape_of types.Byte ≡ Shape.basic basics.Byte
shape-Byte = ap shape_of (sym types.rolls-Byte) ∙ fold-roll-GvType Shape shape_step GvType-F.Byte

pub shape-Int16 : shape_of types.Int16 ≡ Shape.basic basics.Int16
shape-Int16 = ap shape_of (sym types.rolls-Int16) ∙ fold-roll-GvType Shape shape_step GvType-F.Int16

pub shape-Uint16 : shape_of types.Uint16 ≡ Shape.basic basics.Uint16
shape-Uint16 = ap shape_of (sym types.rolls-Uint16) ∙ fold-roll-GvType Shape shape_step GvType-F.Uint16

pub shape-Int32 : shape_of types.Int32 ≡ Shape.basic basics.Int32
shape-Int32 = ap shape_of (sym types.rolls-Int32) ∙ fold-roll-GvType Shape shape_step GvType-F.Int32

pub shape-Uint32 : shape_of types.Uint32 ≡ Shape.basic basics.Uint32
shape-Uint32 = ap shape_of (sym types.rolls-Uint32) ∙ fold-roll-GvType Shape shape_step GvType-F.Uint32

pub shape-Int64 : shape_of types.Int64 ≡ Shape.basic basics.Int64
shape-Int64 = ap shape_of (sym types.rolls-Int64) ∙ fold-roll-GvType Shape shape_step GvType-F.Int64

pub shape-Uint64 : shape_of types.Uint64 ≡ Shape.basic basics.Uint64
shape-Uint64 = ap shape_of (sym types.rolls-Uint64) ∙ fold-roll-GvType Shape shape_step GvType-F.Uint64

pub shape-Handle : shape_of types.Handle ≡ Shape.basic basics.Handle
shape-Handle = ap shape_of (sym types.rolls-Handle) ∙ fold-roll-GvType Shape shape_step GvType-F.Handle

pub shape-Double : shape_of types.Double ≡ Shape.basic basics.Double
shape-Double = ap shape_of (sym types.rolls-Double) ∙ fold-roll-GvType Shape shape_step GvType-F.Double

pub shape-Str : shape_of types.Str ≡ Shape.basic basics.Str
shape-Str = ap shape_of (sym types.rolls-Str) ∙ fold-roll-GvType Shape shape_step GvType-F.Str

pub shape-ObjectPath : shape_of types.ObjectPath ≡ Shape.basic basics.ObjectPath
shape-ObjectPath = ap shape_of (sym types.rolls-ObjectPath) ∙ fold-roll-GvType Shape shape_step GvType-F.ObjectPath

pub shape-Signature : shape_of types.Signature ≡ Shape.basic basics.Signature
shape-Signature = ap shape_of (sym types.rolls-Signature) ∙ fold-roll-GvType Shape shape_step GvType-F.Signature

pub shape-Variant : shape_of types.Variant ≡ Shape.variant
shape-Variant = ap shape_of (sym types.rolls-Variant) ∙ fold-roll-GvType Shape shape_step GvType-F.Variant

pub shape-Array : (t : Box GvType Global) → shape_of (types.Array t) ≡ Shape.array (shape_of t.value)
shape-Array t = ap shape_of (sym (types.rolls-Array t)) ∙ fold-roll-GvType Shape shape_step (GvType-F.Array t)

pub shape-Maybe : (t : Box GvType Global) → shape_of (types.Maybe t) ≡ Shape.maybe (shape_of t.value)
shape-Maybe t = ap shape_of (sym (types.rolls-Maybe t)) ∙ fold-roll-GvType Shape shape_step (GvType-F.Maybe t)

pub shape-Tuple : (ts : Vec GvType Global) → shape_of (types.Tuple ts) ≡ Shape.tuple (shapes_of ts.items)
shape-Tuple ts = ap shape_of (sym (types.rolls-Tuple ts)) ∙ fold-roll-GvType Shape shape_step (GvType-F.Tuple ts)

pub shape-Entry : (k v : Box GvType Global) → shape_of (types.Entry k v) ≡ Shape.entry (shape_of k.value) (shape_of v.value)
shape-Entry k v = ap shape_of (sym (types.rolls-Entry k v)) ∙ fold-roll-GvType Shape shape_step (GvType-F.Entry k v)

pub plain-Bool : (b : Bool) → plain (values.Bool b) ≡ Tree.leaf basics.Bool (Content.truth b)
plain-Bool b = ap plain (sym (values.rolls-Bool b)) ∙ fold-roll-GvValue Tree plain_step (GvValue-F.Bool b)

pub plain-Byte : (n : ℕ) → plain (values.Byte n) ≡ Tree.leaf basics.Byte (Content.number n)
plain-Byte n = ap plain (sym (values.rolls-Byte n)) ∙ fold-roll-GvValue Tree plain_step (GvValue-F.Byte n)

pub plain-Int16 : (z : ℤ) → plain (values.Int16 z) ≡ Tree.leaf basics.Int16 (Content.integer z)
plain-Int16 z = ap plain (sym (values.rolls-Int16 z)) ∙ fold-roll-GvValue Tree plain_step (GvValue-F.Int16 z)

pub plain-Uint16 : (n : ℕ) → plain (values.Uint16 n) ≡ Tree.leaf basics.Uint16 (Content.number n)
plain-Uint16 n = ap plain (sym (values.rolls-Uint16 n)) ∙ fold-roll-GvValue Tree plain_step (GvValue-F.Uint16 n)

pub plain-Int32 : (z : ℤ) → plain (values.Int32 z) ≡ Tree.leaf basics.Int32 (Content.integer z)
plain-Int32 z = ap plain (sym (values.rolls-Int32 z)) ∙ fold-roll-GvValue Tree plain_step (GvValue-F.Int32 z)

pub plain-Uint32 : (n : ℕ) → plain (values.Uint32 n) ≡ Tree.leaf basics.Uint32 (Content.number n)
plain-Uint32 n = ap plain (sym (values.rolls-Uint32 n)) ∙ fold-roll-GvValue Tree plain_step (GvValue-F.Uint32 n)

pub plain-Int64 : (z : ℤ) → plain (values.Int64 z) ≡ Tree.leaf basics.Int64 (Content.integer z)
plain-Int64 z = ap plain (sym (values.rolls-Int64 z)) ∙ fold-roll-GvValue Tree plain_step (GvValue-F.Int64 z)

pub plain-Uint64 : (n : ℕ) → plain (values.Uint64 n) ≡ Tree.leaf basics.Uint64 (Content.number n)
plain-Uint64 n = ap plain (sym (values.rolls-Uint64 n)) ∙ fold-roll-GvValue Tree plain_step (GvValue-F.Uint64 n)

pub plain-Handle : (z : ℤ) → plain (values.Handle z) ≡ Tree.leaf basics.Handle (Content.integer z)
plain-Handle z = ap plain (sym (values.rolls-Handle z)) ∙ fold-roll-GvValue Tree plain_step (GvValue-F.Handle z)

pub plain-Double : (eight : List ℕ) → plain (values.Double eight) ≡ Tree.leaf basics.Double (Content.eight eight)
plain-Double eight = ap plain (sym (values.rolls-Double eight)) ∙ fold-roll-GvValue Tree plain_step (GvValue-F.Double eight)

pub plain-Str : (text : List ℕ) → plain (values.Str text) ≡ Tree.leaf basics.Str (Content.text text)
plain-Str text = ap plain (sym (values.rolls-Str text)) ∙ fold-roll-GvValue Tree plain_step (GvValue-F.Str text)

pub plain-ObjectPath : (text : List ℕ) → plain (values.ObjectPath text) ≡ Tree.leaf basics.ObjectPath (Content.text text)
plain-ObjectPath text = ap plain (sym (values.rolls-ObjectPath text)) ∙ fold-roll-GvValue Tree plain_step (GvValue-F.ObjectPath text)

pub plain-Signature : (text : List ℕ) → plain (values.Signature text) ≡ Tree.leaf basics.Signature (Content.text text)
plain-Signature text = ap plain (sym (values.rolls-Signature text)) ∙ fold-roll-GvValue Tree plain_step (GvValue-F.Signature text)

pub plain-Variant : (t : Box GvType Global) (v : Box GvValue Global) → plain (values.Variant t v) ≡ Tree.variant (shape_of t.value) (plain v.value)
plain-Variant t v = ap plain (sym (values.rolls-Variant t v)) ∙ fold-roll-GvValue Tree plain_step (GvValue-F.Variant t v)

pub plain-Array : (vs : Vec GvValue Global) → plain (values.Array vs) ≡ Tree.array (plains vs.items)
plain-Array vs = ap plain (sym (values.rolls-Array vs)) ∙ fold-roll-GvValue Tree plain_step (GvValue-F.Array vs)

pub plain-Tuple : (vs : Vec GvValue Global) → plain (values.Tuple vs) ≡ Tree.tuple (plains vs.items)
plain-Tuple vs = ap plain (sym (values.rolls-Tuple vs)) ∙ fold-roll-GvValue Tree plain_step (GvValue-F.Tuple vs)

pub plain-Nothing : plain (values.Maybe None) ≡ Tree.nothing
plain-Nothing = ap plain (sym (values.rolls-Maybe None)) ∙ fold-roll-GvValue Tree plain_step (GvValue-F.Maybe None)

pub plain-Just : (v : Box GvValue Global) → plain (values.Maybe (Some v)) ≡ Tree.just (plain v.value)
plain-Just v = ap plain (sym (values.rolls-Maybe (Some v))) ∙ fold-roll-GvValue Tree plain_step (GvValue-F.Maybe (Some v))

pub plain-Entry : (a b : Box GvValue Global) → plain (values.Entry a b) ≡ Tree.entry (plain a.value) (plain b.value)
plain-Entry a b = ap plain (sym (values.rolls-Entry a b)) ∙ fold-roll-GvValue Tree plain_step (GvValue-F.Entry a b)

pub plain-Bytes : (bytes : List ℕ) → plain (values.Bytes bytes) ≡ Tree.array (byte_trees bytes)
plain-Bytes bytes = ap plain (sym (values.rolls-Bytes bytes)) ∙ fold-roll-GvValue Tree plain_step (GvValue-F.Bytes bytes)
