-- Texts that are valid, and those that aren't.
use Rattle.std.proofs.Common.{◌≡◌, ℕ, Bool, true, false, List, refl}
use Rattle.std.specs.Str.{IsUtf8, is_utf8}
use Rattle.std.proofs.lemmas.Str.{IsUtf8-from_is_utf8}

invalid_by : (bytes : List ℕ) (b : Bool) → is_utf8 bytes ≡ b → (IsUtf8 bytes → ⊥) → b ≡ false
invalid_by bytes true e h = absurd (h (IsUtf8-from_is_utf8 bytes e))
invalid_by bytes false e h = refl

pub invalid : (bytes : List ℕ) → (IsUtf8 bytes → ⊥) → is_utf8 bytes ≡ false
invalid bytes h = invalid_by bytes (is_utf8 bytes) refl h
