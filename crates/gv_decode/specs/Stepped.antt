-- The elements of an array that are left, as they are cut one after another.
use Rattle.std.specs.Prelude.{◌≡◌, ℕ, map, ◌*◌, ◌<◌, ◌≤◌, ⊤, List, [], ◌∷◌, length, Option, Some, None, option_map, Result, Ok, Err}
use denote.Ref.{Bor}
use Rattle.gv_value.specs.declared.limits.TheConstants.{MOST_BYTES, TOO_LARGE}
use Rattle.gv_value.specs.Framing.{Mark, cut, steps, numbers, array_children}
use Rattle.gv_value.specs.Layout.{align_of, size_of}
use Rattle.gv_value.specs.Shape.{Shape}
use Rattle.gv_decode.specs.declared.error.DecodeError.{DecodeError}
use Rattle.gv_decode.specs.declared.stepping.Elements.{Elements}
use Rattle.gv_decode.specs.declared.stepping.Ends.{Ends}
use Rattle.gv_decode.specs.declared.stepping.Ends.TheVariants as ends
use Rattle.gv_decode.specs.Decoded.{Fails}

-- The alignment and the end of each element that is left
abbrev pub marks_left : Ends → ℕ → ℕ → ℕ → List Mark
marks_left (ends.Size size) at align left = steps size at left
marks_left (ends.Offsets width table) at align left =
    map (λ e. (align, e)) (numbers width left table.now)

-- The bytes of the elements that are left, if the body can be cut into them
abbrev pub elements_left : Elements → Option (List (List ℕ))
elements_left e = cut e.body.now e.at (marks_left e.ends e.at e.align e.left)

-- Holds if the elements have a size of at most `TOO_LARGE` and need no padding, or if there is an
-- offset for each of them
abbrev pub AreEnds : Ends → ℕ → ℕ → Type 0
AreEnds (ends.Size size) align left = (align ≡ 1) × (size ≤ TOO_LARGE)
AreEnds (ends.Offsets width table) align left =
    (length table.now ≡ left * width) × (0 < width) × (width ≤ 4)

-- Holds if the next element can be cut
pub record IsOpen (e : Elements) : Type 0 where
  pub within : e.at ≤ length e.body.now
  pub short : length e.body.now ≤ MOST_BYTES
  pub pos : 0 < e.align
  pub small : e.align ≤ 8
  pub ends : AreEnds e.ends e.align e.left

-- The bytes of the elements of an array, if the type is one
abbrev pub elements_of : Shape → List ℕ → Option (List (List ℕ))
elements_of (Shape.array t) bytes = array_children (align_of t) (size_of t) bytes
elements_of _ bytes = None

-- Holds if the result has the elements that the definitions find. It may be `NotNormal` only if
-- they find none, and `NoMemory` always.
abbrev pub Opens : Result Elements DecodeError → Option (List (List ℕ)) → Type 0
Opens (Ok e) found = found ≡ elements_left e
Opens (Err e) found = Fails e found

-- Holds if the result is the first of the elements that were left and the elements after it, or
-- `None` if none was left. It may be `NotNormal` only if the elements can't be cut, and `NoMemory`
-- always.
abbrev pub Steps : Result (Option (Bor (List ℕ) × Elements)) DecodeError
    → Option (List (List ℕ)) → Type 0
Steps (Ok (Some s)) left = left ≡ option_map (λ cs. s.0.now ∷ cs) (elements_left s.1)
Steps (Ok None) left = left ≡ Some []
Steps (Err e) left = Fails e left

-- Holds if the first element has at most 16 MiB, the others can be cut, and they are fewer
pub record AreFewer (child : Bor (List ℕ)) (others elements : Elements) : Type 0 where
  pub short : length child.now ≤ MOST_BYTES
  pub ready : IsOpen others
  pub fewer : others.left < elements.left

-- Holds if after a cut the other elements can be cut, and they are fewer
abbrev pub GoesOn : Result (Option (Bor (List ℕ) × Elements)) DecodeError → Elements → Type 0
GoesOn (Ok (Some s)) elements = AreFewer s.0 s.1 elements
GoesOn (Ok None) elements = ⊤
GoesOn (Err e) elements = ⊤
