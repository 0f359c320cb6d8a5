-- The errors of a walk.
use Rattle.std.specs.Prelude.{◌≡◌, ◌≤◌, ℕ, ⊤, List, Option, Some, Result, Ok, Err, IsErrOf}
use Rattle.fp_host.specs.declared.host.Host.{Ghosts}
use Rattle.fp_host.specs.declared.remotes.Remotes as of_remotes
use Rattle.fp_host.specs.Moments.{Moments, Rose}
use Rattle.fp_host.specs.Causes.{IsCaused}
use Rattle.fp_host.specs.Frame.{Unchanged}
use Rattle.fp_host.specs.Remote.{Holdings}
use Rattle.fp_host.specs.declared.host.HostEnd.{HostEnd}
use Rattle.fp_host.specs.declared.host.HostEnd.TheVariants as host_ends
use Rattle.fp_host.specs.declared.remotes.RemoteError.{RemoteError}
use Rattle.fp_host.specs.declared.remotes.RemoteError.TheVariants as errors
use Rattle.fp_base.specs.declared.object.ObjKind.{ObjKind}
use Rattle.ost_model.specs.Objects.{Fault, too_many, too_deep, missing, too_long, refused_mode, corrupt, malformed}
use Rattle.ost_model.specs.Order.{Place}
use Rattle.ost_object.specs.declared.error.ObjectError.{ObjectError}
use Rattle.ost_object.specs.declared.error.ObjectError.TheVariants as unread
use Rattle.ost_walk.specs.declared.ends.ObjectFault.{ObjectFault}
use Rattle.ost_walk.specs.declared.ends.ObjectFault.TheVariants as faults
use Rattle.ost_walk.specs.declared.ends.WalkFault.{WalkFault}
use Rattle.ost_walk.specs.declared.ends.WalkEnd.{WalkEnd}
use Rattle.ost_walk.specs.declared.ends.WalkEnd.TheVariants as ends

-- The fault that an `ObjectFault` represents
abbrev pub fault_of : ObjectFault → Fault
fault_of faults.TooMany = too_many
fault_of faults.TooDeep = too_deep
fault_of faults.Missing = missing
fault_of (faults.TooLong size) = too_long size
fault_of (faults.RefusedMode mode) = refused_mode mode
fault_of (faults.Corrupt digest) = corrupt digest
fault_of (faults.Malformed rule) = malformed rule

-- The error of a walk for an error of the host
abbrev pub of_host : HostEnd → WalkEnd
of_host host_ends.Fault = ends.HostFault
of_host host_ends.NoMemory = ends.NoMemory

-- The error of a walk for an error of the remotes
abbrev pub of_remote : RemoteError → WalkEnd
of_remote errors.Failed = ends.RemoteFault
of_remote errors.NoMemory = ends.NoMemory

-- The error that refuses an object with a fault
abbrev pub refusal : List ℕ → ObjKind → ObjectFault → WalkEnd
refusal d kind fault = ends.Refused (record { digest = d; kind = kind; fault = fault })

-- The error of a walk for an object that can't be read
abbrev pub unread_end : List ℕ → ObjKind → ObjectError → WalkEnd
unread_end d kind (unread.Malformed rule) = refusal d kind (faults.Malformed rule)
unread_end d kind unread.NoMemory = ends.NoMemory

-- Holds if `refused` holds of a refusal. Any other error is possible.
abbrev pub RefusesBy : (WalkFault → Type 0) → WalkEnd → Type 0
RefusesBy refused (ends.Refused w) = refused w
RefusesBy refused ends.HostFault = ⊤
RefusesBy refused ends.RemoteFault = ⊤
RefusesBy refused ends.NoMemory = ⊤

-- Holds if `good` holds of a value, or `refused` of a refusal. Any other error is possible.
abbrev pub EndsBy : {A : Type 0} → (A → Type 0) → (WalkFault → Type 0) → Result A WalkEnd → Type 0
EndsBy good refused (Ok a) = good a
EndsBy good refused (Err end) = RefusesBy refused end

-- The refusal is that of this object, and names its fault
pub record IsFaultOf (d : List ℕ) (kind : ObjKind) (fault : Option Fault) (w : WalkFault) : Type 0
  where
    pub digest : w.digest ≡ d
    pub kind_is : w.kind ≡ kind
    pub fault_is : fault ≡ Some (fault_of w.fault)

-- The refusal is that of this object, and names the limit that it exceeds
pub record IsLimit (d : List ℕ) (kind : ObjKind) (limit : Option ObjectFault)
    (w : WalkFault) : Type 0 where
  pub digest : w.digest ≡ d
  pub kind_is : w.kind ≡ kind
  pub limit_is : limit ≡ Some w.fault

-- The refusal is that of the first place that has a fault
pub record IsFirst (found : Option (Place × Fault)) (w : WalkFault) : Type 0 where
  pub depth : ℕ
  pub is : found ≡ Some (
    record { digest = w.digest; kind = w.kind; depth = depth },
    fault_of w.fault,
  )

-- The remotes' count of faults doesn't fall, and a fault occurs only if it rose
pub record IsRemotes (faulted : Type 0) (before now : ℕ) : Type 0 where
  pub later : before ≤ now
  pub rose : faulted → Rose before now

-- The result is neither a fault of the host nor one of the remotes
pub record NoFault {A : Type 0} (result : Result A WalkEnd) : Type 0 where
  pub host : IsErrOf result ends.HostFault → ⊥
  pub remote : IsErrOf result ends.RemoteFault → ⊥

-- The outside: the content that the host and the remotes report, and their counts of faults
pub record Outside : Type 0 where
  pub told : Option Moments
  pub host_faults : ℕ
  pub holdings : Option Holdings
  pub remote_faults : ℕ

-- The outside with this content and these counts of faults
abbrev pub outside : Option Moments → ℕ → Option Holdings → ℕ → Outside
outside told host_faults holdings remote_faults =
    record {
      told = told;
      host_faults = host_faults;
      holdings = holdings;
      remote_faults = remote_faults;
    }

-- The outside of a host and remotes, at the bounds `H: Host` and `R: Remotes`
abbrev pub around : {H R : Type 0} → Ghosts H → of_remotes.Ghosts R → H → R → Outside
around h r host remotes =
    outside (h.moments host) (h.faults host) (r.holds remotes) (r.faults remotes)

-- Nothing changes outside. A fault of the host or of the remotes occurs only if its count of faults
-- rose.
pub record Observes {A : Type 0} (result : Result A WalkEnd) (u w : Outside) : Type 0 where
  pub still : Unchanged u.told w.told
  pub same : w.holdings ≡ u.holdings
  pub host : IsCaused (IsErrOf result ends.HostFault) u.told
      (λ v. Unit {0}) u.host_faults w.host_faults
  pub remote : IsRemotes (IsErrOf result ends.RemoteFault) u.remote_faults w.remote_faults
