-- The values of a type, and the one serialised form of each.
use Rattle.std.specs.Prelude.{ℕ, zero, suc, ◌-◌, ◌+◌, ◌^◌, Bool, true, false, ◌&&◌, ◌==◌, nat_lt, if◌then◌else◌, ℤ, pos, negsuc, List, [], ◌∷◌, ◌++◌, length, Option, Some, None}
use Rattle.std.specs.Int.{Width, byte_len, cast_unsigned}
use Rattle.std.specs.List.{concat}
use Rattle.gv_value.specs.declared.limits.TheConstants.{MOST_DEPTH}
use Rattle.gv_value.specs.Basics.{Form, form_of}
use Rattle.gv_value.specs.Bytes.{le_bytes, zeros}
use Rattle.gv_value.specs.Signs.{basic_letter}
use Rattle.gv_value.specs.Shape.{Shape, Shapes, no_shapes, shape, is_basic, is_type}
use Rattle.gv_value.specs.Tree.{Content, Tree, Trees, no_trees, tree}
use Rattle.gv_value.specs.Layout.{align_of, size_of}
use Rattle.gv_value.specs.Framing.{laid, ends, framed, same_parts, tuple_body, tuple_offsets}
use Rattle.gv_value.specs.Texts.{is_text}
use Rattle.gv_value.specs.TypeText.{type_text}
use Rattle.gv_value.specs.Spelled.{two_shapes, two_trees}

-- Tests whether a number fits in a signed integer of a width
abbrev pub fits_signed : Width → ℤ → Bool
fits_signed w (pos n) = nat_lt (n + n) (256 ^ byte_len w)
fits_signed w (negsuc n) = nat_lt (n + n) (256 ^ byte_len w)

-- Tests whether each number is below 256
abbrev pub are_bytes : List ℕ → Bool
are_bytes [] = true
are_bytes (b ∷ bytes) = nat_lt b 256 && are_bytes bytes

-- ---- the values of a type

-- Tests whether a content is of a basic type
abbrev pub content_fits : Form → Content → Bool
content_fits Form.truth (Content.truth b) = true
content_fits (Form.unsigned w) (Content.number n) = nat_lt n (256 ^ byte_len w)
content_fits (Form.signed w) (Content.integer z) = fits_signed w z
content_fits Form.double (Content.eight eight) = length eight == 8 && are_bytes eight
content_fits (Form.text kind) (Content.text text) = is_text kind text
content_fits _ _ = false

-- Tests whether each value of a list passes a test
abbrev pub all_fit : (Tree → Bool) → Trees → Bool
all_fit one no_trees = true
all_fit one (tree v vs) = one v && all_fit one vs

-- Tests whether there are as many values as types, and each passes the test of its type
abbrev pub each_fits : (Shape → Tree → Bool) → Shapes → Trees → Bool
each_fits one no_shapes no_trees = true
each_fits one (shape t ts) (tree v vs) = one t v && each_fits one ts vs
each_fits one _ _ = false

-- Tests whether the value is of the type, and nests at most this deep
abbrev pub fits_within : ℕ → Shape → Tree → Bool
fits_within n (Shape.basic b) (Tree.leaf c content) =
    basic_letter b == basic_letter c && content_fits (form_of b) content
fits_within (suc n) Shape.variant (Tree.variant t v) = is_type t && fits_within n t v
fits_within (suc n) (Shape.array t) (Tree.array vs) = all_fit (fits_within n t) vs
fits_within (suc n) (Shape.maybe t) Tree.nothing = true
fits_within (suc n) (Shape.maybe t) (Tree.just v) = fits_within n t v
fits_within (suc n) (Shape.tuple ts) (Tree.tuple vs) = each_fits (fits_within n) ts vs
fits_within (suc n) (Shape.entry k v) (Tree.entry a b) =
    each_fits (fits_within n) (two_shapes k v) (two_trees a b)
fits_within _ _ _ = false

-- Tests whether the type is valid, and the value is of it
abbrev pub fits : Shape → Tree → Bool
fits t v = is_type t && fits_within MOST_DEPTH t v

-- ---- the serialised form

-- The bytes of a basic value
abbrev pub content_bytes : Form → Content → List ℕ
content_bytes Form.truth (Content.truth b) = (if b then 1 else 0) ∷ []
content_bytes (Form.unsigned w) (Content.number n) = le_bytes (byte_len w) n
content_bytes (Form.signed w) (Content.integer z) = le_bytes (byte_len w) (cast_unsigned w z)
content_bytes Form.double (Content.eight eight) = eight
content_bytes (Form.text kind) (Content.text text) = text ++ 0 ∷ []
content_bytes _ _ = []

-- The bytes of an array of these children
abbrev pub array_bytes : ℕ → Option ℕ → List (List ℕ) → List ℕ
array_bytes align (Some size) children = concat children
array_bytes align None children =
    let parts = same_parts align children in framed (laid [] parts) (ends [] parts)

-- The bytes of a maybe with this child
abbrev pub just_bytes : Option ℕ → List ℕ → List ℕ
just_bytes (Some size) child = child
just_bytes None child = child ++ 0 ∷ []

-- The bytes of a tuple of these children
abbrev pub tuple_bytes : Option ℕ → Shapes → List (List ℕ) → List ℕ
tuple_bytes (Some size) ts children =
    tuple_body ts children ++ zeros (size - length (tuple_body ts children))
tuple_bytes None ts children = framed (tuple_body ts children) (tuple_offsets ts children)

abbrev mutual
  -- The bytes of a value of a type; none if it isn't of the type
  pub spelling : Tree → Shape → List ℕ
  spelling (Tree.leaf c content) (Shape.basic b) = content_bytes (form_of b) content
  spelling (Tree.variant t v) Shape.variant = spelling v t ++ 0 ∷ type_text t
  spelling (Tree.array vs) (Shape.array t) =
      array_bytes (align_of t) (size_of t) (spelling_of_all vs t)
  spelling Tree.nothing (Shape.maybe t) = []
  spelling (Tree.just v) (Shape.maybe t) = just_bytes (size_of t) (spelling v t)
  spelling (Tree.tuple vs) (Shape.tuple ts) =
      tuple_bytes (size_of (Shape.tuple ts)) ts (spelling_of_each vs ts)
  spelling (Tree.entry a b) (Shape.entry k v) =
      tuple_bytes (size_of (Shape.entry k v)) (two_shapes k v) (spelling a k ∷ spelling b v ∷ [])
  spelling _ _ = []

  -- The bytes of each value, all of one type
  pub spelling_of_all : Trees → Shape → List (List ℕ)
  spelling_of_all no_trees t = []
  spelling_of_all (tree v vs) t = spelling v t ∷ spelling_of_all vs t

  -- The bytes of each value of its type
  pub spelling_of_each : Trees → Shapes → List (List ℕ)
  spelling_of_each no_trees ts = []
  spelling_of_each (tree v vs) no_shapes = []
  spelling_of_each (tree v vs) (shape t ts) = spelling v t ∷ spelling_of_each vs ts
