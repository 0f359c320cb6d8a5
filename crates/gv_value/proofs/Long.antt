-- Bytes that are too long are no value.
use Rattle.std.specs.Prelude.{if◌then◌else◌}
use Rattle.std.proofs.Common.{refl, Bool, ap, None, Option, true, false, ◌≡◌, ◌&&◌, leb, length, arith, List, ℕ, ◌<◌, ◌≤◌}
use Rattle.std.proofs.lemmas.Bool.{leb-true}
use Rattle.gv_value.specs.Reading.{value_at, value_of}
use Rattle.gv_value.specs.declared.limits.TheConstants.{MOST_DEPTH, MOST_BYTES}
use Rattle.gv_value.specs.Shape.{Shape, is_type}

none_if_not : {A : Type 0} (a b : Bool) (r : Option A) → b ≡ false → if a && b then r else None ≡ None
none_if_not true b r is = ap (λ t. if t then r else None) is
none_if_not false b r is = refl

-- bytes that are too long are no value
pub long_is_none : (t : Shape) (bytes : List ℕ) → MOST_BYTES < length bytes → value_of t bytes ≡ None
long_is_none t bytes long = none_if_not (is_type t) (leb (length bytes) MOST_BYTES) (value_at MOST_DEPTH t bytes) (go (leb (length bytes) MOST_BYTES) refl)
  where
    go : (b : Bool) → leb (length bytes) MOST_BYTES ≡ b → leb (length bytes) MOST_BYTES ≡ false
    go false is = is
    go true is = absurd (omega (arith, leb-true (length bytes) MOST_BYTES is, long))

pub short_is_none : (t : Shape) (bytes : List ℕ) → (length bytes ≤ MOST_BYTES → value_of t bytes ≡ None) → value_of t bytes ≡ None
short_is_none t bytes short = go (leb (length bytes) MOST_BYTES) refl
  where
    go : (b : Bool) → leb (length bytes) MOST_BYTES ≡ b → value_of t bytes ≡ None
    go false is = none_if_not (is_type t) (leb (length bytes) MOST_BYTES) (value_at MOST_DEPTH t bytes) is
    go true is = short (leb-true (length bytes) MOST_BYTES is)
