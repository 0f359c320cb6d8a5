-- The type that a `GvType` represents, and the value that a `GvValue` represents.
use Rattle.std.specs.Prelude.{ℕ, List, [], ◌∷◌, map, Option, Some, None}
use Rattle.gv_value.specs.declared.basic.Basic.TheVariants as basics
use Rattle.gv_value.specs.declared.types.GvType.{GvType, fold-GvType}
use Rattle.gv_value.specs.declared.types.GvType.TheOpen.{GvType-F}
use Rattle.gv_value.specs.declared.value.GvValue.{GvValue, fold-GvValue}
use Rattle.gv_value.specs.declared.value.GvValue.TheOpen.{GvValue-F}
use Rattle.gv_value.specs.Shape.{Shape, Shapes, no_shapes, shape}
use Rattle.gv_value.specs.Tree.{Content, Tree, Trees, no_trees, tree, byte_trees}

-- The types of a list
abbrev pub shapes_from : List Shape → Shapes
shapes_from [] = no_shapes
shapes_from (t ∷ ts) = shape t (shapes_from ts)

-- One step of `shape_of`: the type, where each inner `GvType` was replaced by its type
abbrev pub shape_step : GvType-F Shape → Shape
shape_step GvType-F.Bool = Shape.basic basics.Bool
shape_step GvType-F.Byte = Shape.basic basics.Byte
shape_step GvType-F.Int16 = Shape.basic basics.Int16
shape_step GvType-F.Uint16 = Shape.basic basics.Uint16
shape_step GvType-F.Int32 = Shape.basic basics.Int32
shape_step GvType-F.Uint32 = Shape.basic basics.Uint32
shape_step GvType-F.Int64 = Shape.basic basics.Int64
shape_step GvType-F.Uint64 = Shape.basic basics.Uint64
shape_step GvType-F.Handle = Shape.basic basics.Handle
shape_step GvType-F.Double = Shape.basic basics.Double
shape_step GvType-F.Str = Shape.basic basics.Str
shape_step GvType-F.ObjectPath = Shape.basic basics.ObjectPath
shape_step GvType-F.Signature = Shape.basic basics.Signature
shape_step GvType-F.Variant = Shape.variant
shape_step (GvType-F.Array t) = Shape.array t.value
shape_step (GvType-F.Maybe t) = Shape.maybe t.value
shape_step (GvType-F.Tuple ts) = Shape.tuple (shapes_from ts.items)
shape_step (GvType-F.Entry k v) = Shape.entry k.value v.value

-- The type that a `GvType` represents
abbrev pub shape_of : GvType → Shape
shape_of = fold-GvType Shape shape_step

-- The types that `GvType`s represent
abbrev pub shapes_of : List GvType → Shapes
shapes_of ts = shapes_from (map shape_of ts)

-- The values of a list
abbrev pub trees_from : List Tree → Trees
trees_from [] = no_trees
trees_from (v ∷ vs) = tree v (trees_from vs)

-- One step of `plain`: the value, where each inner `GvValue` was replaced by its value
abbrev pub plain_step : GvValue-F Tree → Tree
plain_step (GvValue-F.Bool b) = Tree.leaf basics.Bool (Content.truth b)
plain_step (GvValue-F.Byte n) = Tree.leaf basics.Byte (Content.number n)
plain_step (GvValue-F.Int16 z) = Tree.leaf basics.Int16 (Content.integer z)
plain_step (GvValue-F.Uint16 n) = Tree.leaf basics.Uint16 (Content.number n)
plain_step (GvValue-F.Int32 z) = Tree.leaf basics.Int32 (Content.integer z)
plain_step (GvValue-F.Uint32 n) = Tree.leaf basics.Uint32 (Content.number n)
plain_step (GvValue-F.Int64 z) = Tree.leaf basics.Int64 (Content.integer z)
plain_step (GvValue-F.Uint64 n) = Tree.leaf basics.Uint64 (Content.number n)
plain_step (GvValue-F.Handle z) = Tree.leaf basics.Handle (Content.integer z)
plain_step (GvValue-F.Double eight) = Tree.leaf basics.Double (Content.eight eight)
plain_step (GvValue-F.Str text) = Tree.leaf basics.Str (Content.text text)
plain_step (GvValue-F.ObjectPath text) = Tree.leaf basics.ObjectPath (Content.text text)
plain_step (GvValue-F.Signature text) = Tree.leaf basics.Signature (Content.text text)
plain_step (GvValue-F.Variant t v) = Tree.variant (shape_of t.value) v.value
plain_step (GvValue-F.Array vs) = Tree.array (trees_from vs.items)
plain_step (GvValue-F.Maybe None) = Tree.nothing
plain_step (GvValue-F.Maybe (Some v)) = Tree.just v.value
plain_step (GvValue-F.Tuple vs) = Tree.tuple (trees_from vs.items)
plain_step (GvValue-F.Entry a b) = Tree.entry a.value b.value
plain_step (GvValue-F.Bytes bytes) = Tree.array (byte_trees bytes)

-- The value that a `GvValue` represents
abbrev pub plain : GvValue → Tree
plain = fold-GvValue Tree plain_step

-- The values that `GvValue`s represent
abbrev pub plains : List GvValue → Trees
plains vs = trees_from (map plain vs)
