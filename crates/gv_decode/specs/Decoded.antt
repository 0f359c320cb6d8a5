-- The results of reading bytes.
use Rattle.std.specs.Prelude.{◌≡◌, ℕ, map, ◌-◌, ◌*◌, ◌<◌, ◌≤◌, ⊤, List, [], ◌∷◌, length, take, reverse, Option, Some, None, Result, Ok, Err}
use denote.Ref.{Bor}
use Rattle.std.specs.Option.{IsSome}
use Rattle.gv_value.specs.declared.limits.TheConstants.{MOST_BYTES}
use Rattle.gv_value.specs.Framing.{numbers, array_children, tuple_children}
use Rattle.gv_value.specs.Layout.{align_of, size_of}
use Rattle.gv_value.specs.Reading.{before_zero}
use Rattle.gv_value.specs.Shape.{Shape}
use Rattle.gv_value.specs.Spelled.{two_shapes}
use Rattle.gv_decode.specs.declared.error.DecodeError.{DecodeError}
use Rattle.gv_decode.specs.declared.framing.Frame.{Frame}
use Rattle.gv_decode.specs.declared.error.DecodeError.TheVariants as errors

-- Holds if reading at most 16 MiB may fail with this error: never with `TooLong`, with `NotNormal`
-- only if the definitions read nothing, and with `NoMemory` always
abbrev pub Fails : {Y : Type 0} → DecodeError → Option Y → Type 0
Fails errors.TooLong read = ⊥
Fails errors.NotNormal read = read ≡ None
Fails errors.NoMemory read = ⊤

-- Holds if the result, seen by a view, is what the definitions read. It may be `NotNormal` only if
-- they read nothing, and `NoMemory` always.
abbrev pub Gives : {X Y : Type 0} → (X → Y) → Result X DecodeError → Option Y → Type 0
Gives view (Ok x) read = read ≡ Some (view x)
Gives view (Err e) read = Fails e read

-- Holds if the result is `Ok` only if the definitions read something, and `NotNormal` only if they
-- read nothing. It may always be `NoMemory`.
abbrev pub Passes : {X Y : Type 0} → Result X DecodeError → Option Y → Type 0
Passes (Ok x) read = IsSome read
Passes (Err e) read = Fails e read

-- The bytes of borrowed slices
abbrev pub slices : List (Bor (List ℕ)) → List (List ℕ)
slices children = map (λ child. child.now) children

-- Holds if each list has at most 16 MiB
abbrev pub AreShort : List (List ℕ) → Type 0
AreShort [] = ⊤
AreShort (bytes ∷ others) = (length bytes ≤ MOST_BYTES) × AreShort others

-- The bytes of the elements of an array, of the members of a tuple, or of the key and the value of
-- a dictionary entry
abbrev pub children_of : Shape → List ℕ → Option (List (List ℕ))
children_of (Shape.array t) bytes = array_children (align_of t) (size_of t) bytes
children_of (Shape.tuple ts) bytes = tuple_children (size_of (Shape.tuple ts)) ts bytes
children_of (Shape.entry k v) bytes =
    tuple_children (size_of (Shape.entry k v)) (two_shapes k v) bytes
children_of _ bytes = None

-- The first `count` offsets of a frame
abbrev pub first_offsets : Frame → ℕ → List ℕ
first_offsets f count = numbers f.width count f.table.now

-- All offsets of a frame
abbrev pub offsets_of : Frame → List ℕ
offsets_of f = first_offsets f f.count

-- The first `count` offsets of a frame, in reverse order
abbrev pub offsets_left : Frame → ℕ → List ℕ
offsets_left f count = reverse (first_offsets f count)

-- Holds if the table has all offsets, of one to four bytes each
pub record IsWhole (f : Frame) : Type 0 where
  pub table : length f.table.now ≡ f.count * f.width
  pub pos : 0 < f.width
  pub small : f.width ≤ 4

-- Holds if the frame has the first `before` bytes of the container as its body, and `count` offsets
pub record IsFrame (f : Frame) (bytes : List ℕ) (before count : ℕ) : Type 0 where
  pub body : f.body.now ≡ take before bytes
  pub before_is : length f.body.now ≡ before
  pub count_is : f.count ≡ count
  pub whole : IsWhole f

-- The bytes of the child of a maybe that isn't empty, by the child's size if it is fixed. A child
-- without a fixed size is followed by a zero byte.
abbrev pub child_bytes : Option ℕ → List ℕ → Option (List ℕ)
child_bytes (Some size) bytes = Some bytes
child_bytes None bytes = before_zero (length bytes - 1) bytes
