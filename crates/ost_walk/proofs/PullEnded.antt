-- How a pull ends.
use Rattle.std.proofs.Common.{Option, Some, ◌≡◌}
use Rattle.fp_host.specs.declared.host.HostEnd.TheVariants as host_ends
use Rattle.fp_host.specs.declared.host.HostEnd.{HostEnd}
use Rattle.fp_small.specs.declared.refusal.Refusal.{Refusal}
use Rattle.ost_walk.specs.PullEnds.{RefusesBy, of_host}

pub host_refused : (first : Option Refusal) (e : HostEnd) → RefusesBy (λ r. first ≡ Some r) (of_host e)
host_refused first host_ends.Fault = tt
host_refused first host_ends.NoMemory = tt
