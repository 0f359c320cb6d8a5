-- The errors of a pull.
use Rattle.std.specs.Prelude.{◌≡◌, ⊤, Result, Ok, Err, IsErrOf}
use Rattle.fp_host.specs.declared.host.HostEnd.{HostEnd}
use Rattle.fp_host.specs.declared.host.HostEnd.TheVariants as host_ends
use Rattle.fp_host.specs.declared.remotes.RemoteError.{RemoteError}
use Rattle.fp_host.specs.declared.remotes.RemoteError.TheVariants as errors
use Rattle.fp_host.specs.Causes.{IsCounted}
use Rattle.fp_host.specs.Frame.{Unchanged}
use Rattle.fp_small.specs.declared.refusal.Refusal.{Refusal}
use Rattle.ost_walk.specs.declared.ends.WalkFault.{WalkFault}
use Rattle.ost_walk.specs.declared.ends.WalkEnd.{WalkEnd}
use Rattle.ost_walk.specs.declared.ends.WalkEnd.TheVariants as walks
use Rattle.ost_walk.specs.Ends.{fault_of, IsRemotes, Outside}
use Rattle.ost_walk.specs.Refusals.{refusal_of}
use Rattle.ost_walk.specs.declared.pull_end.PullEnd.{PullEnd}
use Rattle.ost_walk.specs.declared.pull_end.PullEnd.TheVariants as ends

-- The error of a pull for an error of the host
abbrev pub of_host : HostEnd → PullEnd
of_host host_ends.Fault = ends.HostFault
of_host host_ends.NoMemory = ends.NoMemory

-- The error of a pull for an error of the remotes
abbrev pub of_remote : RemoteError → PullEnd
of_remote errors.Failed = ends.RemoteFault
of_remote errors.NoMemory = ends.NoMemory

-- Holds if `refused` holds of a refusal. Any other error is possible.
abbrev pub RefusesBy : (Refusal → Type 0) → PullEnd → Type 0
RefusesBy refused (ends.Refused r) = refused r
RefusesBy refused ends.HostFault = ⊤
RefusesBy refused ends.RemoteFault = ⊤
RefusesBy refused ends.NoMemory = ⊤

-- Holds if the result is this value or this refusal. Any other error is possible.
abbrev pub Answers : {A : Type 0} → Result A PullEnd → Result A Refusal → Type 0
Answers (Ok a) answer = answer ≡ Ok a
Answers (Err end) answer = RefusesBy (λ r. answer ≡ Err r) end

-- Holds if `good` holds of the value, and nothing was refused. Any other error is possible.
abbrev pub Tells : {A : Type 0} → (A → Type 0) → Result A PullEnd → Type 0
Tells good (Ok a) = good a
Tells good (Err end) = RefusesBy (λ r. ⊥) end

-- The refusal of an object, by the fault that a walk found
abbrev pub walk_refusal : WalkFault → Refusal
walk_refusal w = refusal_of w.digest w.kind (fault_of w.fault)

-- The error of a pull for an error of a walk
abbrev pub of_walk : WalkEnd → PullEnd
of_walk (walks.Refused w) = ends.Refused (walk_refusal w)
of_walk walks.HostFault = ends.HostFault
of_walk walks.RemoteFault = ends.RemoteFault
of_walk walks.NoMemory = ends.NoMemory

-- The result is neither a fault of the host nor one of the remotes
pub record NoFault {A : Type 0} (result : Result A PullEnd) : Type 0 where
  pub host : IsErrOf result ends.HostFault → ⊥
  pub remote : IsErrOf result ends.RemoteFault → ⊥

-- Nothing changes outside. A fault of the host or of the remotes occurs only if its count of faults
-- rose.
pub record Looks {A : Type 0} (result : Result A PullEnd) (u w : Outside) : Type 0 where
  pub unchanged : Unchanged u.told w.told
  pub same : w.holdings ≡ u.holdings
  pub host : IsCounted (IsErrOf result ends.HostFault) u.told u.host_faults w.host_faults
  pub remote : IsRemotes (IsErrOf result ends.RemoteFault) u.remote_faults w.remote_faults
