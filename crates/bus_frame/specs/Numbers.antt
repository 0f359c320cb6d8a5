-- Padding, numbers and strings (D-Bus specification, "Marshaling").
use Rattle.std.specs.Prelude.{ℕ, ◌-◌, ◌%◌, Bool, ◌&&◌, ◌==◌, not, if◌then◌else◌, List}
use Rattle.std.specs.List.{list_all, list_any}
use Rattle.byteorder.specs.Endian.{little_number, big_number}
use Rattle.std.specs.Str.{is_utf8}

-- The number of padding bytes from the offset `at` to the next multiple of n
abbrev pub padding : ℕ → ℕ → ℕ
padding n at = (n - at % n) % n

-- Tests whether all bytes are zero
abbrev pub are_zero : List ℕ → Bool
are_zero = list_all (λ b. b == 0)

-- The 32-bit number that the first four bytes encode; the first argument selects little-endian
abbrev pub number_from : Bool → List ℕ → ℕ
number_from little bytes = if little then little_number 4 bytes else big_number 4 bytes

-- Tests whether bytes are UTF-8 without a zero byte
abbrev pub is_text : List ℕ → Bool
is_text bytes = is_utf8 bytes && not (list_any (λ b. b == 0) bytes)
