-- The layout of a container's children, and the position at which each ends (GVariant
-- specification, "Framing Offsets").
use Rattle.std.specs.Prelude.{ℕ, zero, suc, ◌+◌, ◌-◌, ◌*◌, ◌/◌, ◌%◌, ◌^◌, Bool, true, false, ◌&&◌, ◌==◌, nat_le, if◌then◌else◌, ◌≡◌, List, [], ◌∷◌, ◌++◌, length, take, drop, map, reverse, slice_range, Option, Some, None, option_map, option_and_then, unwrap_or}
use Rattle.std.specs.List.{flat_map, concat}
use Rattle.std.specs.Str.{bytes_eq}
use Rattle.gv_value.specs.Bytes.{le_bytes, le_value, zeros, all_zero, AllBelow}
use Rattle.gv_value.specs.Shape.{Shape, tuple, Shapes, no_shapes, shape}
use Rattle.gv_value.specs.Layout.{padding, align_of, padded_end, size_of, end_of}

-- ---- what is written

-- A child's alignment and its bytes
abbrev pub Part : Type 0
Part = ℕ × List ℕ

-- A body with one child added, after the padding that its alignment needs
abbrev pub placed : List ℕ → Part → List ℕ
placed body part = body ++ (zeros (padding (length body) part.0) ++ part.1)

-- A body with children added, each after its padding
abbrev pub laid : List ℕ → List Part → List ℕ
laid body [] = body
laid body (part ∷ parts) = laid (placed body part) parts

-- The positions at which the children end if they are added to a body, in order
abbrev pub ends : List ℕ → List Part → List ℕ
ends body [] = []
ends body (part ∷ parts) = length (placed body part) ∷ ends (placed body part) parts

-- The number of bytes of each offset in a container, which has `before` bytes before the offsets
-- and `count` offsets: the smallest of 1, 2, 4 and 8 that fits the whole
abbrev pub width : ℕ → ℕ → ℕ
width before count = if nat_le (before + count) 0xFF then 1
    else (if nat_le (before + 2 * count) 0xFFFF then 2
    else (if nat_le (before + 4 * count) 0xFFFFFFFF then 4 else 8))

-- A body with its offsets after it
abbrev pub framed : List ℕ → List ℕ → List ℕ
framed body offsets = body ++ flat_map (le_bytes (width (length body) (length offsets))) offsets

-- Each offset fits in its width
abbrev pub OffsetsFit : List ℕ → List ℕ → Type 0
OffsetsFit body offsets = AllBelow (256 ^ width (length body) (length offsets)) offsets

-- The bytes are a body with its offsets after it
abbrev pub IsFramed : List ℕ → List ℕ → List ℕ → Type 0
IsFramed body offsets bytes = OffsetsFit body offsets × (bytes ≡ framed body offsets)

-- Children of one alignment
abbrev pub same_parts : ℕ → List (List ℕ) → List Part
same_parts align = map (λ child. (align, child))

-- Children with the alignments of their types
abbrev pub parts_of : Shapes → List (List ℕ) → List Part
parts_of no_shapes children = []
parts_of (shape t ts) [] = []
parts_of (shape t ts) (child ∷ children) = (align_of t, child) ∷ parts_of ts children

-- Tests whether the list of types is empty
abbrev pub is_none_left : Shapes → Bool
is_none_left no_shapes = true
is_none_left (shape t ts) = false

-- The offsets with a member's end in front, if the member needs one: it has no fixed size and isn't
-- the last
abbrev pub put_offset : Option ℕ → Bool → ℕ → List ℕ → List ℕ
put_offset (Some size) last end offsets = offsets
put_offset None true end offsets = offsets
put_offset None false end offsets = end ∷ offsets

-- The ends of a tuple's members that are written as offsets: those of the members without a fixed
-- size, except the last member
abbrev pub written : Shapes → List ℕ → List ℕ
written no_shapes es = []
written (shape t ts) [] = []
written (shape t ts) (e ∷ es) = put_offset (size_of t) (is_none_left ts) e (written ts es)

-- The members of a tuple, each after its padding
abbrev pub tuple_body : Shapes → List (List ℕ) → List ℕ
tuple_body ts children = laid [] (parts_of ts children)

-- The offsets of a tuple in the order in which they are written: that of the last member first
abbrev pub tuple_offsets : Shapes → List (List ℕ) → List ℕ
tuple_offsets ts children = reverse (written ts (ends [] (parts_of ts children)))

-- ---- what is read

-- The child's bytes from `start` to `end`, if they are in the body and the padding from `at` on is
-- zero
abbrev pub child_at : List ℕ → ℕ → ℕ → ℕ → Option (List ℕ)
child_at body at start end =
    if nat_le start end && nat_le end (length body) && all_zero (slice_range body at start)
    then Some (slice_range body start end) else None

-- A child's alignment, and where it ends
abbrev pub Mark : Type 0
Mark = ℕ × ℕ

-- The children of a body from a position to the body's end, by their marks
abbrev pub cut : List ℕ → ℕ → List Mark → Option (List (List ℕ))
cut body at [] = if at == length body then Some [] else None
cut body at (mark ∷ marks) =
    option_and_then (λ child. option_map (λ others. child ∷ others) (cut body mark.1 marks))
    (child_at body at (at + padding at mark.0) mark.1)

-- The number of bytes of each offset in a container of this size, in bytes
abbrev pub width_in : ℕ → ℕ
width_in whole = width whole 0

-- This many numbers of `w` bytes each, in little-endian order
abbrev pub numbers : ℕ → ℕ → List ℕ → List ℕ
numbers w zero table = []
numbers w (suc count) table = le_value (take w table) ∷ numbers w count (drop w table)

-- The `count` offsets of `w` bytes each, if they are the whole table
abbrev pub offsets_at : ℕ → ℕ → List ℕ → Option (List ℕ)
offsets_at w count table = let found = numbers w count table in if bytes_eq
    (flat_map (le_bytes w) found) table then Some found else None

-- The offsets after the first `before` bytes of a container, if their width is the smallest that
-- fits
abbrev pub offsets_after : ℕ → ℕ → List ℕ → Option (List ℕ)
offsets_after before count bytes =
    if nat_le before (length bytes) && width before count == width_in (length bytes)
    then offsets_at (width before count) count (drop before bytes) else None

-- The marks of this many children of one size, which need no padding
abbrev pub steps : ℕ → ℕ → ℕ → List Mark
steps size at zero = []
steps size at (suc count) = (1, at + size) ∷ steps size (at + size) count

-- The elements of an array without a fixed element size, whose offsets start after `before` bytes
abbrev pub elements_before : ℕ → ℕ → List ℕ → Option (List (List ℕ))
elements_before align before bytes =
    option_and_then (λ es. cut (take before bytes) 0 (map (λ e. (align, e)) es))
    (offsets_after before ((length bytes - before) / width_in (length bytes)) bytes)

-- The elements of an array whose elements have no fixed size. The last offset is the end of the
-- last element, and so the start of the offsets.
abbrev pub framed_children : ℕ → List ℕ → Option (List (List ℕ))
framed_children align [] = Some []
framed_children align (b ∷ bytes) =
    elements_before align (le_value
    (drop (length (b ∷ bytes) - width_in (length (b ∷ bytes))) (b ∷ bytes))) (b ∷ bytes)

-- The elements of an array, by their alignment and their size if it is fixed
abbrev pub array_children : ℕ → Option ℕ → List ℕ → Option (List (List ℕ))
array_children align (Some size) bytes = cut bytes 0 (steps size 0 (length bytes / size))
array_children align None bytes = framed_children align bytes

-- The end of a tuple's member, and the offsets that remain. A last member without a fixed size ends
-- where the offsets start, at `whole`.
abbrev pub member_end : Option ℕ → Bool → ℕ → ℕ → ℕ → List ℕ → ℕ × List ℕ
member_end (Some size) last whole at align offsets = (padded_end at align size, offsets)
member_end None true whole at align offsets = (whole, offsets)
member_end None false whole at align [] = (whole, [])
member_end None false whole at align (end ∷ offsets) = (end, offsets)

-- The alignment and the end of each member after a position, by the offsets in the members' order
abbrev pub marks : ℕ → ℕ → Shapes → List ℕ → List Mark
marks whole at no_shapes offsets = []
marks whole at (shape t ts) offsets =
    let found = member_end (size_of t) (is_none_left ts) whole at (align_of t) offsets in
    (align_of t, found.0) ∷ marks whole found.0 ts found.1

-- The number of offsets that a tuple has
abbrev pub offset_count : Shapes → ℕ
offset_count no_shapes = 0
offset_count (shape t ts) = length (put_offset (size_of t) (is_none_left ts) 0 []) + offset_count ts

-- The members of a tuple without a fixed size, whose offsets start after `before` bytes
abbrev pub open_children : Shapes → ℕ → List ℕ → Option (List (List ℕ))
open_children ts before bytes =
    option_and_then (λ os. cut (take before bytes) 0 (marks before 0 ts (reverse os)))
    (offsets_after before (offset_count ts) bytes)

-- The members of a tuple of this fixed size, if only zero bytes follow the last one
abbrev pub filled_children : Shapes → ℕ → ℕ → List ℕ → Option (List (List ℕ))
filled_children ts size whole bytes =
    if length bytes == size && all_zero (drop whole bytes)
    then cut (take whole bytes) 0 (marks whole 0 ts []) else None

-- The members of a tuple, by its size if that is fixed
abbrev pub tuple_children : Option ℕ → Shapes → List ℕ → Option (List (List ℕ))
tuple_children (Some size) ts bytes = filled_children ts size (unwrap_or (end_of 0 ts) 0) bytes
tuple_children None ts bytes =
    open_children ts (length bytes - offset_count ts * width_in (length bytes)) bytes
