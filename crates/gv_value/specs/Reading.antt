-- The value of a type that bytes represent.
use Rattle.std.specs.Prelude.{ℕ, zero, suc, ◌+◌, ◌-◌, ◌^◌, Bool, true, false, not, ◌&&◌, ◌==◌, nat_le, if◌then◌else◌, List, [], ◌∷◌, length, take, drop, Option, Some, None, option_map, option_and_then}
use Rattle.std.specs.Int.{Width, byte_len, cast_signed}
use Rattle.std.specs.List.{before_last, after_last}
use Rattle.std.specs.Str.{bytes_eq}
use Rattle.gv_value.specs.declared.limits.TheConstants.{MOST_BYTES, MOST_DEPTH}
use Rattle.gv_value.specs.Basics.{Form, form_of, TextKind}
use Rattle.gv_value.specs.Bytes.{le_bytes, le_value}
use Rattle.gv_value.specs.Shape.{Shape, Shapes, no_shapes, shape, is_type}
use Rattle.gv_value.specs.Tree.{Content, Tree, Trees, no_trees, tree}
use Rattle.gv_value.specs.Layout.{align_of, size_of}
use Rattle.gv_value.specs.Framing.{array_children, tuple_children}
use Rattle.gv_value.specs.Texts.{is_text}
use Rattle.gv_value.specs.TypeText.{type_of}
use Rattle.gv_value.specs.Spelled.{two_shapes}
use Rattle.gv_value.specs.Spelling.{are_bytes}

-- ---- values of basic types

-- The boolean in bytes
abbrev pub truth_at : List ℕ → Option Content
truth_at (zero ∷ []) = Some (Content.truth false)
truth_at (suc zero ∷ []) = Some (Content.truth true)
truth_at _ = None

-- The number in `w` bytes, in little-endian order
abbrev pub number_at : ℕ → List ℕ → Option ℕ
number_at w bytes = let n = le_value bytes in if bytes_eq (le_bytes w n) bytes then Some n else None

-- The double in eight bytes
abbrev pub eight_at : List ℕ → Option Content
eight_at bytes = if length bytes == 8 && are_bytes bytes then Some (Content.eight bytes) else None

-- The first `n` bytes, if exactly one zero byte follows them
abbrev pub before_zero : ℕ → List ℕ → Option (List ℕ)
before_zero n bytes = if bytes_eq (drop n bytes) (0 ∷ []) then Some (take n bytes) else None

-- The text, if it is valid for its kind
abbrev pub text_if : TextKind → List ℕ → Option Content
text_if kind text = if is_text kind text then Some (Content.text text) else None

-- The valid text of a kind, before a zero byte
abbrev pub text_at : TextKind → List ℕ → Option Content
text_at kind bytes = option_and_then (text_if kind) (before_zero (length bytes - 1) bytes)

-- The content of a basic type's value in bytes
abbrev pub content_at : Form → List ℕ → Option Content
content_at Form.truth bytes = truth_at bytes
content_at (Form.unsigned w) bytes = option_map Content.number (number_at (byte_len w) bytes)
content_at (Form.signed w) bytes =
    option_map (λ n. Content.integer (cast_signed w n)) (number_at (byte_len w) bytes)
content_at Form.double bytes = eight_at bytes
content_at (Form.text kind) bytes = text_at kind bytes

-- ---- values of other types, by a reader of the values in them

-- A reader of the whole bytes as one value
abbrev pub Reader : Type 0
Reader = List ℕ → Option Tree

-- The values that the children represent, all by one reader
abbrev pub read_all : Reader → List (List ℕ) → Option Trees
read_all one [] = Some no_trees
read_all one (child ∷ children) =
    option_and_then (λ v. option_map (tree v) (read_all one children)) (one child)

-- The values that the children represent, each by the reader of its type
abbrev pub read_each : (Shape → Reader) → Shapes → List (List ℕ) → Option Trees
read_each one no_shapes [] = Some no_trees
read_each one (shape t ts) (child ∷ children) =
    option_and_then (λ v. option_map (tree v) (read_each one ts children)) (one t child)
read_each one _ _ = None

-- The child of a maybe that isn't empty; a zero byte follows a child without a fixed size
abbrev pub just_at : Reader → Option ℕ → Reader
just_at one (Some size) bytes = one bytes
just_at one None bytes = option_and_then one (before_zero (length bytes - 1) bytes)

-- The maybe that bytes represent
abbrev pub maybe_at : Reader → Option ℕ → Reader
maybe_at one size [] = Some Tree.nothing
maybe_at one size (b ∷ bytes) = option_map Tree.just (just_at one size (b ∷ bytes))

-- A byte and the bytes after it, split at the last zero byte among them
abbrev pub parted_with : ℕ → List ℕ → Option (List ℕ × List ℕ) → Option (List ℕ × List ℕ)
parted_with b bytes (Some p) = Some (b ∷ p.0, p.1)
parted_with b bytes None = if b == 0 then Some ([], bytes) else None

-- The bytes before the last zero byte, and those after it
abbrev pub parted : List ℕ → Option (List ℕ × List ℕ)
parted [] = None
parted (b ∷ bytes) = parted_with b bytes (parted bytes)

-- The variant in bytes: its child, a zero byte and the child's type string
abbrev pub variant_at : (Shape → Reader) → Reader
variant_at one bytes =
    option_and_then (λ p. option_and_then (λ t. option_map (Tree.variant t) (one t p.0))
    (type_of p.1)) (parted bytes)

-- The dictionary entry with two values as its key and its value
abbrev pub as_entry : Trees → Option Tree
as_entry (tree a (tree b no_trees)) = Some (Tree.entry a b)
as_entry _ = None

-- The value of a type that bytes represent, if it nests at most this deep
abbrev pub value_at : ℕ → Shape → Reader
value_at n (Shape.basic b) bytes = option_map (Tree.leaf b) (content_at (form_of b) bytes)
value_at (suc n) Shape.variant bytes = variant_at (value_at n) bytes
value_at (suc n) (Shape.array t) bytes =
    option_map Tree.array (option_and_then (read_all (value_at n t))
    (array_children (align_of t) (size_of t) bytes))
value_at (suc n) (Shape.maybe t) bytes = maybe_at (value_at n t) (size_of t) bytes
value_at (suc n) (Shape.tuple ts) bytes =
    option_map Tree.tuple (option_and_then (read_each (value_at n) ts)
    (tuple_children (size_of (Shape.tuple ts)) ts bytes))
value_at (suc n) (Shape.entry k v) bytes =
    option_and_then as_entry
    (option_and_then (read_each (value_at n) (two_shapes k v))
    (tuple_children (size_of (Shape.entry k v)) (two_shapes k v) bytes))
value_at _ _ bytes = None

-- The value of a type that bytes represent, if they are its serialised form
abbrev pub value_of : Shape → Reader
value_of t bytes =
    if is_type t && nat_le (length bytes) MOST_BYTES then value_at MOST_DEPTH t bytes else None
