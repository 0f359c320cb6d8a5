-- The results of appending bytes.
use Rattle.std.specs.Prelude.{◌≡◌, ℕ, ◌+◌, ◌-◌, ◌<◌, ◌≤◌, ⊤, List, ◌++◌, length, Option, Some, None, Result, Ok, Err}
use Rattle.std.specs.List.{flat_map}
use Rattle.gv_value.specs.declared.limits.TheConstants.{MOST_BYTES}
use Rattle.gv_value.specs.Bytes.{le_bytes, zeros}
use Rattle.gv_value.specs.Framing.{width}
use Rattle.gv_encode.specs.declared.error.EncodeError.{EncodeError}
use Rattle.gv_encode.specs.declared.error.EncodeError.TheVariants as errors

-- The bytes were appended, and the whole has at most 16 MiB
pub record IsAdded (before after bytes : List ℕ) : Type 0 where
  pub added : after ≡ before ++ bytes
  pub short : length after ≤ MOST_BYTES

-- The errors of appending bytes: `TooLong` is returned only if the whole would be above 16 MiB, and
-- `NotOfType` never. `NoMemory` promises nothing.
abbrev pub Fails : EncodeError → List ℕ → List ℕ → Type 0
Fails errors.NotOfType before bytes = ⊥
Fails errors.TooLong before bytes = MOST_BYTES < length before + length bytes
Fails errors.NoMemory before bytes = ⊤

-- The bytes were appended, or all of them would be more than 16 MiB, or memory ran out
abbrev pub Adds : {X : Type 0} → Result X EncodeError → List ℕ → List ℕ → List ℕ → Type 0
Adds (Ok x) before after bytes = IsAdded before after bytes
Adds (Err e) before after bytes = Fails e before bytes

-- The bytes of offsets that follow a body of `used` bytes
abbrev pub offset_bytes : ℕ → List ℕ → List ℕ
offset_bytes used offsets = flat_map (le_bytes (width used (length offsets))) offsets

-- The bytes after the members of a tuple, which have `used` bytes with their padding: zero bytes up
-- to the tuple's fixed size, or its offsets
abbrev pub closing : Option ℕ → ℕ → List ℕ → List ℕ
closing (Some size) used offsets = zeros (size - used)
closing None used offsets = offset_bytes used offsets
