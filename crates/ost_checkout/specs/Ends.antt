-- The errors of a checkout.
use Rattle.fp_host.specs.declared.host.HostEnd.{HostEnd}
use Rattle.fp_host.specs.declared.host.HostEnd.TheVariants as host_ends
use Rattle.ost_checkout.specs.declared.ends.CheckoutEnd.{CheckoutEnd}
use Rattle.ost_checkout.specs.declared.ends.CheckoutEnd.TheVariants as ends

-- The `CheckoutEnd` that a `HostEnd` is converted to
abbrev pub of_host : HostEnd → CheckoutEnd
of_host host_ends.Fault = ends.Fault
of_host host_ends.NoMemory = ends.NoMemory
