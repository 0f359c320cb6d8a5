-- The errors of functions over a host, and their causes.
use Rattle.std.specs.Prelude.{◌≡◌, ℕ, ◌≤◌, Option, Some}
use Rattle.fp_host.specs.View.{View}
use Rattle.fp_host.specs.Moments.{Moments, Rose}
use Rattle.fp_host.specs.declared.host.HostError.{HostError}
use Rattle.fp_host.specs.declared.host.HostError.TheVariants as error
use Rattle.fp_host.specs.declared.path.PathError.{PathError}
use Rattle.fp_host.specs.declared.path.PathError.TheVariants as fault
use Rattle.fp_host.specs.declared.host.HostEnd.{HostEnd}
use Rattle.fp_host.specs.declared.host.HostEnd.TheVariants as end

-- The `HostEnd` that a `HostError` is converted to
abbrev pub end_of : HostError → HostEnd
end_of error.Failed = end.Fault
end_of error.Clash = end.Fault
end_of error.NoMemory = end.NoMemory

-- The `HostEnd` that a `PathError` is converted to
abbrev pub end_of_path : PathError → HostEnd
end_of_path fault.Bad = end.Fault
end_of_path fault.NoMemory = end.NoMemory

-- The cause of a function's fault: on a host that reports its content, if the present view at the
-- entry meets the condition, the fault comes only if the host's count of faults rose. The count
-- never falls.
pub record IsCaused (Faulted : Type 0) (told : Option Moments) (Condition : View → Type 0)
    (before now : ℕ) : Type 0 where
  pub later : before ≤ now
  pub fault : Faulted → (m : Moments) → told ≡ Some m → Condition m.now → Rose before now

-- The cause of a fault that comes only if the count rose, whatever the host's content
abbrev pub IsCounted : Type 0 → Option Moments → ℕ → ℕ → Type 0
IsCounted Faulted told before now = IsCaused Faulted told (λ v. Unit {0}) before now
