-- A call of the host that needs no memory ends by a fault.
use Rattle.std.proofs.Common.{◌≡◌, refl}
use Rattle.std.specs.Prelude.{Result, Err, IsErrOf}
use Rattle.fp_host.specs.Causes.{end_of}
use Rattle.fp_host.specs.Moments.{NeedsNoMemory}
use Rattle.fp_host.specs.declared.host.HostEnd.TheVariants.{Fault}
use Rattle.fp_host.specs.declared.host.HostError.{HostError}
use Rattle.fp_host.specs.declared.host.HostError.TheVariants.{Failed, Clash, NoMemory}

pub host_failed : {T : Type 0} (e : HostError) → NeedsNoMemory {T = T} (Err e) → end_of e ≡ Fault
host_failed Failed needs = refl
host_failed Clash needs = refl
host_failed NoMemory needs = absurd (needs refl)
