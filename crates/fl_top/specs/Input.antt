-- Reading of the input.
use Rattle.std.specs.Prelude.{◌≡◌, ◌≤◌, ◌<◌, ℕ, Bool, true, false, List, [], ◌++◌, length, Option, Some}
use Rattle.fp_host.specs.Moments.{Rose}
use Rattle.fl_top.specs.declared.input.TheConstants.{MOST_INPUT}
use Rattle.fl_top.specs.declared.input.InputEnd.{InputEnd}
use Rattle.fl_top.specs.declared.input.InputEnd.TheVariants.{TooLong, Fault, NoMemory}

-- The maximum length of the input in bytes: 64 MiB
abbrev pub input_most : ℕ
input_most = MOST_INPUT

-- The bytes are all that was left of the input, at most 64 MiB. Of a source that doesn't tell what
-- is left, this says nothing.
abbrev pub IsWhole : Option (List ℕ) → List ℕ → Type 0
IsWhole left bytes = (all : List ℕ) → left ≡ Some all → (bytes ≡ all) × (length all ≤ input_most)

-- All of the input was taken
abbrev pub IsTaken : Option (List ℕ) → Option (List ℕ) → Type 0
IsTaken old new = (all : List ℕ) → old ≡ Some all → new ≡ Some []

-- All of the input was taken, if it had at most 64 MiB
abbrev pub IsDrained : Option (List ℕ) → Option (List ℕ) → Type 0
IsDrained old new = (all : List ℕ) → old ≡ Some all → length all ≤ input_most → new ≡ Some []

-- More than 64 MiB were left of the input
abbrev pub IsTooLong : Option (List ℕ) → Type 0
IsTooLong left = (all : List ℕ) → left ≡ Some all → input_most < length all

-- The cause of an end: `TooLong` comes only if more than 64 MiB were left, and `Fault` only if the
-- count of faults rose
abbrev pub InputStops : Option (List ℕ) → ℕ → ℕ → InputEnd → Type 0
InputStops left before now TooLong = IsTooLong left
InputStops left before now Fault = Rose before now
InputStops left before now NoMemory = Unit {0}

-- One step of reading, from the bytes `before` to the bytes `after`; `more` tells whether bytes
-- were added. If the source tells what is left, no byte is lost, and nothing is left after a step
-- that added none.
pub record Adds (old new : Option (List ℕ)) (before after : List ℕ) (more : Bool) : Type 0 where
  pub told : (left : List ℕ) → old ≡ Some left
      → (rest : List ℕ) × (new ≡ Some rest) × (after ++ rest ≡ before ++ left)
      × (more ≡ false → rest ≡ [])
  pub grows : more ≡ true → length before < length after
  pub same : more ≡ false → after ≡ before

-- The cause of a step's end: `Fault` comes only if the count of faults rose, and a step never ends
-- with `TooLong`
abbrev pub StepStops : ℕ → ℕ → InputEnd → Type 0
StepStops before now TooLong = ⊥
StepStops before now Fault = Rose before now
StepStops before now NoMemory = Unit {0}
