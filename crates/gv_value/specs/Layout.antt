-- The alignment of each type, and its size if that is fixed (GVariant specification, "Alignment"
-- and "Fixed-size").
use Rattle.std.specs.Prelude.{ℕ, ◌+◌, ◌-◌, ◌%◌, max, Bool, Option, Some, None, option_map, option_and_then, unwrap_or}
use Rattle.std.specs.Int.{byte_len}
use Rattle.gv_value.specs.Basics.{Form, truth, unsigned, signed, double, text, form_of}
use Rattle.gv_value.specs.Shape.{Shape, basic, variant, array, maybe, tuple, entry, Shapes, no_shapes, shape}

-- The number of bytes from a position to the next multiple of an alignment
abbrev pub padding : ℕ → ℕ → ℕ
padding at align = (align - at % align) % align

-- The size in bytes of a basic type's values, if it is fixed
abbrev pub form_size : Form → Option ℕ
form_size truth = Some 1
form_size (unsigned w) = Some (byte_len w)
form_size (signed w) = Some (byte_len w)
form_size double = Some 8
form_size (text k) = None

abbrev mutual
  -- The alignment of a type, in bytes
  pub align_of : Shape → ℕ
  align_of (basic b) = unwrap_or (form_size (form_of b)) 1
  align_of variant = 8
  align_of (array t) = align_of t
  align_of (maybe t) = align_of t
  align_of (tuple ts) = greatest_align ts
  align_of (entry k v) = max (align_of k) (max (align_of v) 1)

  -- The greatest alignment of the types, at least 1
  pub greatest_align : Shapes → ℕ
  greatest_align no_shapes = 1
  greatest_align (shape t ts) = max (align_of t) (greatest_align ts)

-- The position at which a child of this size ends, if its padding starts at the position `at`
abbrev pub padded_end : ℕ → ℕ → ℕ → ℕ
padded_end at align size = at + padding at align + size

-- The size of a fixed-size tuple, by its alignment and the end of its last member: rounded up to a
-- multiple of the alignment, and at least 1
abbrev pub filled : ℕ → ℕ → ℕ
filled align end = max 1 (end + padding end align)

abbrev mutual
  -- The size of a type in bytes, if all its values have one size
  pub size_of : Shape → Option ℕ
  size_of (basic b) = form_size (form_of b)
  size_of variant = None
  size_of (array t) = None
  size_of (maybe t) = None
  size_of (tuple ts) = option_map (filled (greatest_align ts)) (end_of 0 ts)
  -- A dictionary entry has the size of a tuple with two members
  size_of (entry k v) = option_map (filled (max (align_of k) (max (align_of v) 1)))
      (option_and_then (λ m. option_and_then
      (λ n. Some (padded_end (padded_end 0 (align_of k) m) (align_of v) n)) (size_of v))
      (size_of k))

  -- The position at which the last member ends, if the members start after the position `at`; None
  -- if a member has no fixed size
  pub end_of : ℕ → Shapes → Option ℕ
  end_of at no_shapes = Some at
  end_of at (shape t ts) =
      option_and_then (λ n. end_of (padded_end at (align_of t) n) ts) (size_of t)
