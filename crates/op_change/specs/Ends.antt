-- The errors of an operation, from those of its parts.
use Rattle.fp_host.specs.declared.host.HostEnd.{HostEnd}
use Rattle.fp_host.specs.declared.host.HostEnd.TheVariants as host_ends
use Rattle.ost_walk.specs.declared.pull_end.PullEnd.{PullEnd}
use Rattle.ost_walk.specs.declared.pull_end.PullEnd.TheVariants as pulls
use Rattle.op_change.specs.declared.ending.ApplyEnd.{ApplyEnd}
use Rattle.op_change.specs.declared.ending.ApplyEnd.TheVariants as ends

-- The `ApplyEnd` that a `HostEnd` is converted to
abbrev pub of_host : HostEnd → ApplyEnd
of_host host_ends.Fault = ends.Fault
of_host host_ends.NoMemory = ends.NoMemory

-- The `ApplyEnd` that a `PullEnd` is converted to
abbrev pub of_pull : PullEnd → ApplyEnd
of_pull (pulls.Refused refusal) = ends.Refused refusal
of_pull pulls.HostFault = ends.Fault
of_pull pulls.RemoteFault = ends.RemoteFault
of_pull pulls.NoMemory = ends.NoMemory
