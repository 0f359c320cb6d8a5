-- The type that a `Kind` represents.
use Rattle.gv_value.specs.declared.kind.Kind.{Kind}
use Rattle.gv_value.specs.declared.kind.Kind.TheVariants as kinds
use Rattle.gv_value.specs.Shape.{Shape}
use Rattle.gv_value.specs.Views.{shape_of, shapes_of}

-- The type that a `Kind` represents
abbrev pub kind_shape : Kind → Shape
kind_shape (kinds.Basic b) = Shape.basic b
kind_shape kinds.Variant = Shape.variant
kind_shape (kinds.Array t) = Shape.array (shape_of t.now)
kind_shape (kinds.Maybe t) = Shape.maybe (shape_of t.now)
kind_shape (kinds.Tuple ts) = Shape.tuple (shapes_of ts.now)
kind_shape (kinds.Entry k v) = Shape.entry (shape_of k.now) (shape_of v.now)
