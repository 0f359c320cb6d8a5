-- Reading of single bytes.
use Rattle.std.specs.Prelude.{ℕ, ◌==◌, if◌then◌else◌, List, [], ◌∷◌, Option, Some, None}
use Rattle.fp_base.specs.Steps.{◌>>=◌}

-- The first byte, and those after it
abbrev pub first_of : List ℕ → Option (ℕ × List ℕ)
first_of [] = None
first_of (byte ∷ rest) = Some (byte, rest)

-- The bytes after the first one, if that one is `byte`
abbrev pub remainder_byte : ℕ → List ℕ → Option (List ℕ)
remainder_byte byte bytes = first_of bytes >>= λ b. if b.0 == byte then Some b.1 else None
