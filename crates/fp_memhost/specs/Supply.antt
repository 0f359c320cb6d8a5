-- The record that a fake source keeps.
use Rattle.std.specs.Prelude.{◌≡◌, ◌==◌, ◌+◌, ◌-◌, ◌^◌, ℕ, Bool, false, List, [], ◌∷◌, length, drop, min, Option, Some, None, if◌then◌else◌}
use Rattle.fp_host.specs.declared.source.Taken.{Taken}
use Rattle.fp_host.specs.declared.source.Taken.TheVariants.{Took, End, Failed}

-- The record that a fake source keeps: the bytes that are left, and how its calls return them
pub record Supply : Type 0 where
  pub left : List ℕ
  -- The maximum number of bytes that a call returns
  pub step : ℕ
  -- The number of the call that fails, counted from 0
  pub fail_at : Option ℕ
  -- The number of calls so far, at most 2^64 - 1
  pub calls : ℕ

-- Tests whether the call with this number fails
abbrev pub fails_now : Option ℕ → ℕ → Bool
fails_now None call = false
fails_now (Some number) call = number == call

-- The result of a call that doesn't fail
abbrev pub taken_of : List ℕ → ℕ → ℕ → Taken
taken_of [] step room = End
taken_of (b ∷ rest) step room = Took (min (min (length (b ∷ rest)) room) step)

-- The bytes that are left after a call with this result
abbrev pub left_by : Taken → List ℕ → List ℕ
left_by (Took n) left = drop n left
left_by End left = left
left_by Failed left = left

-- One call: the call with the number `fail_at` fails and takes nothing; each other one returns as
-- many bytes as fit, at most `step`.
pub record Gives (old new : Supply) (room : ℕ) (taken : Taken) : Type 0 where
  pub answer : taken ≡ (if fails_now old.fail_at old.calls then Failed
      else taken_of old.left old.step room)
  pub left : new.left ≡ left_by taken old.left
  pub step : new.step ≡ old.step
  pub fail_at : new.fail_at ≡ old.fail_at
  pub calls : new.calls ≡ min (old.calls + 1) (2 ^ 64 - 1)
