-- The relation between the values of a type and their serialised forms (GVariant specification,
-- "Serialisation"), in normal form only.
use Rattle.std.specs.Prelude.{◌≡◌, ℕ, zero, suc, ◌-◌, ◌*◌, ◌^◌, ◌<◌, ◌≤◌, if◌then◌else◌, IsTrue, ⊤, FitsSigned, List, [], ◌∷◌, ◌++◌, length, Option, Some, None}
use Rattle.std.specs.Int.{byte_len, cast_unsigned}
use Rattle.std.specs.List.{concat}
use Rattle.gv_value.specs.declared.limits.TheConstants.{MOST_BYTES, MOST_DEPTH}
use Rattle.gv_value.specs.Basics.{Form, form_of}
use Rattle.gv_value.specs.Bytes.{le_bytes, zeros, AllBelow}
use Rattle.gv_value.specs.Shape.{Shape, Shapes, no_shapes, shape, is_type}
use Rattle.gv_value.specs.Tree.{Content, Tree, Trees, no_trees, tree}
use Rattle.gv_value.specs.Layout.{align_of, size_of}
use Rattle.gv_value.specs.Framing.{laid, ends, IsFramed, same_parts, tuple_body, tuple_offsets}
use Rattle.gv_value.specs.Texts.{is_text}
use Rattle.gv_value.specs.TypeText.{type_text}

-- The bytes are the serialised form of a basic value
abbrev pub ContentSpelled : Form → Content → List ℕ → Type 0
ContentSpelled Form.truth (Content.truth b) bytes = bytes ≡ (if b then 1 else 0) ∷ []
ContentSpelled (Form.unsigned w) (Content.number n) bytes =
    (n < 256 ^ byte_len w) × (bytes ≡ le_bytes (byte_len w) n)
ContentSpelled (Form.signed w) (Content.integer z) bytes =
    FitsSigned w z × (bytes ≡ le_bytes (byte_len w) (cast_unsigned w z))
ContentSpelled Form.double (Content.eight eight) bytes =
    (length eight ≡ 8) × AllBelow 256 eight × (bytes ≡ eight)
ContentSpelled (Form.text kind) (Content.text text) bytes =
    IsTrue (is_text kind text) × (bytes ≡ text ++ 0 ∷ [])
ContentSpelled _ _ bytes = ⊥

-- The bytes are an array of these children. Elements of a fixed size follow one another directly.
-- Others are padded to their alignment, and each has an offset.
abbrev pub ArraySpelled : ℕ → Option ℕ → List (List ℕ) → List ℕ → Type 0
ArraySpelled align (Some size) children bytes = bytes ≡ concat children
ArraySpelled align None children bytes =
    let parts = same_parts align children in IsFramed (laid [] parts) (ends [] parts) bytes

-- The bytes are a maybe with this child. A zero byte follows a child without a fixed size.
abbrev pub JustSpelled : Option ℕ → List ℕ → List ℕ → Type 0
JustSpelled (Some size) child bytes = bytes ≡ child
JustSpelled None child bytes = bytes ≡ child ++ 0 ∷ []

-- The bytes are a tuple of these children. A tuple of a fixed size is filled with zero bytes to its
-- size. Another tuple ends with the offsets of its members without a fixed size, except the last
-- member, in reverse order.
abbrev pub TupleSpelled : Option ℕ → Shapes → List (List ℕ) → List ℕ → Type 0
TupleSpelled (Some size) ts children bytes =
    bytes ≡ tuple_body ts children ++ zeros (size - length (tuple_body ts children))
TupleSpelled None ts children bytes =
    IsFramed (tuple_body ts children) (tuple_offsets ts children) bytes

-- The bytes are a variant: the child's bytes, a zero byte, and the child's type string
abbrev pub VariantSpelled : Shape → List ℕ → List ℕ → Type 0
VariantSpelled t child bytes = IsTrue (is_type t) × (bytes ≡ child ++ 0 ∷ type_text t)

-- The values have these serialised forms, one by one
abbrev pub AllSpelled : (Tree → List ℕ → Type 0) → Trees → List (List ℕ) → Type 0
AllSpelled One no_trees [] = ⊤
AllSpelled One (tree v vs) (child ∷ children) = One v child × AllSpelled One vs children
AllSpelled One _ _ = ⊥

-- The values of these types have these serialised forms, one by one
abbrev pub EachSpelled : (Shape → Tree → List ℕ → Type 0) → Shapes → Trees → List (List ℕ) → Type 0
EachSpelled One no_shapes no_trees [] = ⊤
EachSpelled One (shape t ts) (tree v vs) (child ∷ children) =
    One t v child × EachSpelled One ts vs children
EachSpelled One _ _ _ = ⊥

-- The types of a key and a value, as those of two members
abbrev pub two_shapes : Shape → Shape → Shapes
two_shapes k v = shape k (shape v no_shapes)

-- A key and a value, as two members
abbrev pub two_trees : Tree → Tree → Trees
two_trees a b = tree a (tree b no_trees)

-- The bytes are the serialised form of a value of a type that nests at most this deep. A basic
-- value has depth 0; any other is 1 deeper than the deepest value in it, and has depth 1 at least.
abbrev pub SpelledWithin : ℕ → Shape → Tree → List ℕ → Type 0
SpelledWithin n (Shape.basic b) (Tree.leaf c content) bytes =
    (b ≡ c) × ContentSpelled (form_of b) content bytes
SpelledWithin (suc n) Shape.variant (Tree.variant t v) bytes =
    (child : List ℕ) × SpelledWithin n t v child × VariantSpelled t child bytes
SpelledWithin (suc n) (Shape.array t) (Tree.array vs) bytes =
    (children : List (List ℕ)) × AllSpelled (SpelledWithin n t) vs children
    × ArraySpelled (align_of t) (size_of t) children bytes
SpelledWithin (suc n) (Shape.maybe t) Tree.nothing bytes = bytes ≡ []
SpelledWithin (suc n) (Shape.maybe t) (Tree.just v) bytes =
    (child : List ℕ) × SpelledWithin n t v child × JustSpelled (size_of t) child bytes
SpelledWithin (suc n) (Shape.tuple ts) (Tree.tuple vs) bytes =
    (children : List (List ℕ)) × EachSpelled (SpelledWithin n) ts vs children
    × TupleSpelled (size_of (Shape.tuple ts)) ts children bytes
SpelledWithin (suc n) (Shape.entry k v) (Tree.entry a b) bytes =
    (children : List (List ℕ))
    × EachSpelled (SpelledWithin n) (two_shapes k v) (two_trees a b) children
    × TupleSpelled (size_of (Shape.entry k v)) (two_shapes k v) children bytes
SpelledWithin _ _ _ bytes = ⊥

-- The bytes are the serialised form of this value of this valid type, and have at most 16 MiB
pub record Spelled (t : Shape) (v : Tree) (bytes : List ℕ) : Type 0 where
  pub type : IsTrue (is_type t)
  pub value : SpelledWithin MOST_DEPTH t v bytes
  pub short : length bytes ≤ MOST_BYTES
