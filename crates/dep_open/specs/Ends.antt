-- The ends of a host's calls, as ends of opening.
use Rattle.fp_host.specs.declared.host.HostEnd.{HostEnd}
use Rattle.fp_host.specs.declared.host.HostEnd.TheVariants as host
use Rattle.dep_open.specs.declared.open_end.OpenEnd.{OpenEnd}
use Rattle.dep_open.specs.declared.open_end.OpenEnd.TheVariants.{Fault, NoMemory}

-- The end of a host's call, as the end of opening
abbrev pub open_end : HostEnd → OpenEnd
open_end host.Fault = Fault
open_end host.NoMemory = NoMemory
