-- What the code's types say of their values.
use Rattle.std.proofs.Common.{◌≡◌, ℕ, zero, suc, ◌<◌, List, [], ◌∷◌, get_or, Fits, w8, arith}
use Rattle.gv_value.specs.Bytes.{AllBelow}

pub AllBelow-fits : (bytes : List ℕ) → ((i : ℕ) → Fits w8 (get_or bytes i 0)) → AllBelow 256 bytes
AllBelow-fits [] h = tt
AllBelow-fits (b ∷ bytes) h = ((h 0).fits, AllBelow-fits bytes (λ i. h (suc i)))
