-- The errors of a change, from those of the layers below.
use Rattle.std.specs.Prelude.{◌≡◌, Option, Some, None, Result, Ok, Err}
use Rattle.fp_host.specs.declared.host.HostEnd.{HostEnd}
use Rattle.fp_host.specs.declared.host.HostEnd.TheVariants as host
use Rattle.fp_host.specs.declared.remotes.RemoteError.{RemoteError}
use Rattle.fp_host.specs.declared.remotes.RemoteError.TheVariants as remote
use Rattle.fp_small.specs.declared.op.Op.{Op}
use Rattle.ost_walk.specs.declared.pull_end.PullEnd.{PullEnd}
use Rattle.ost_walk.specs.declared.pull_end.PullEnd.TheVariants as pulls
use Rattle.op_change.specs.declared.ending.ApplyEnd.{ApplyEnd}
use Rattle.op_change.specs.declared.ending.ApplyEnd.TheVariants as applies
use Rattle.dep_open.specs.declared.open_end.OpenEnd.{OpenEnd}
use Rattle.dep_open.specs.declared.open_end.OpenEnd.TheVariants as open_end
use Rattle.fp_small.specs.declared.refusal.Refusal.{Refusal}
use Rattle.fp_small.specs.declared.refusal.Refusal.TheVariants.{Damaged}
use Rattle.fp_small.specs.declared.state.State.{State}
use Rattle.fp_small.specs.declared.state.Layout.TheVariants.{Two}
use Rattle.dep_states.specs.After.{Allows, layout_for}
use Rattle.op_change.specs.Applied.{Brings, IsShort}
use Rattle.fl_change.specs.declared.end.RunEnd.{RunEnd}
use Rattle.fl_change.specs.declared.end.RunEnd.TheVariants.{Refused, Fault, RemoteFault, NoMemory}

-- The `RunEnd` that a `HostEnd` is converted to
abbrev pub end_of_host : HostEnd → RunEnd
end_of_host host.Fault = Fault
end_of_host host.NoMemory = NoMemory

-- The `RunEnd` that a `RemoteError` is converted to
abbrev pub end_of_remote : RemoteError → RunEnd
end_of_remote remote.Failed = RemoteFault
end_of_remote remote.NoMemory = NoMemory

-- The `RunEnd` that an `ApplyEnd` is converted to
abbrev pub end_of_apply : ApplyEnd → RunEnd
end_of_apply (applies.Refused refusal) = Refused refusal
end_of_apply applies.Fault = Fault
end_of_apply applies.RemoteFault = RemoteFault
end_of_apply applies.NoMemory = NoMemory

-- The `RunEnd` that a `PullEnd` is converted to
abbrev pub end_of_pull : PullEnd → RunEnd
end_of_pull (pulls.Refused refusal) = Refused refusal
end_of_pull pulls.HostFault = Fault
end_of_pull pulls.RemoteFault = RemoteFault
end_of_pull pulls.NoMemory = NoMemory

-- The `RunEnd` that an `OpenEnd` is converted to
abbrev pub end_of_open : OpenEnd → RunEnd
end_of_open (open_end.Damaged path) = Refused (Damaged path)
end_of_open open_end.Fault = Fault
end_of_open open_end.NoMemory = NoMemory

-- The result of a check: `Ok` if there is no refusal, else the refusal; or memory ran out
abbrev pub IsTried : Option Refusal → Result (Unit {0}) RunEnd → Type 0
IsTried refusal (Ok u) = refusal ≡ None
IsTried refusal (Err (Refused r)) = refusal ≡ Some r
IsTried refusal (Err Fault) = ⊥
IsTried refusal (Err RemoteFault) = ⊥
IsTried refusal (Err NoMemory) = Unit {0}

-- The result is the operation if there is no refusal, else the refusal; or memory ran out
abbrev pub IsAsked : Option Refusal → Op → Result Op RunEnd → Type 0
IsAsked refusal op (Ok o) = (refusal ≡ None) × (o ≡ op)
IsAsked refusal op (Err (Refused r)) = refusal ≡ Some r
IsAsked refusal op (Err Fault) = ⊥
IsAsked refusal op (Err RemoteFault) = ⊥
IsAsked refusal op (Err NoMemory) = Unit {0}

-- The value, or the refusal if there is none
abbrev pub or_refuse : {A : Type 0} → Refusal → Option A → Result A Refusal
or_refuse refusal None = Err refusal
or_refuse refusal (Some a) = Ok a

-- The result is the value or the refusal of `found`; or memory ran out
abbrev pub IsSaid : {A : Type 0} → Result A Refusal → Result A RunEnd → Type 0
IsSaid found (Ok a) = found ≡ Ok a
IsSaid found (Err (Refused r)) = found ≡ Err r
IsSaid found (Err Fault) = ⊥
IsSaid found (Err RemoteFault) = ⊥
IsSaid found (Err NoMemory) = Unit {0}

-- The operation brings no commit, and it may be done on the state if this has layout 2
pub record IsPlain (s : State) (op : Op) : Type 0 where
  pub layout : layout_for op ≡ Two
  pub allows : Allows s op
  pub short : IsShort op
  pub brings_none : Brings op → ⊥
