-- Numbers as bytes, in little-endian order.
use Rattle.std.specs.Prelude.{ℕ, zero, suc, ◌+◌, ◌*◌, ◌/◌, ◌%◌, ◌<◌, Bool, true, false, ◌&&◌, ◌==◌, List, [], ◌∷◌, replicate, ⊤}

-- The lowest `w` bytes of a number, in little-endian order
abbrev pub le_bytes : ℕ → ℕ → List ℕ
le_bytes zero n = []
le_bytes (suc w) n = n % 256 ∷ le_bytes w (n / 256)

-- The number that bytes represent in little-endian order
abbrev pub le_value : List ℕ → ℕ
le_value [] = 0
le_value (b ∷ bytes) = b + 256 * le_value bytes

-- A list of `n` zero bytes
abbrev pub zeros : ℕ → List ℕ
zeros n = replicate n 0

-- Tests whether all bytes are zero
abbrev pub all_zero : List ℕ → Bool
all_zero [] = true
all_zero (b ∷ bytes) = b == 0 && all_zero bytes

-- Each number is below the limit
abbrev pub AllBelow : ℕ → List ℕ → Type 0
AllBelow limit [] = ⊤
AllBelow limit (n ∷ ns) = (n < limit) × AllBelow limit ns
