-- The errors of bringing a commit, from those of its checkout.
use Rattle.std.specs.Prelude.{ℕ, List}
use Rattle.fp_small.specs.declared.refusal.Refusal.TheVariants as refusals
use Rattle.ost_checkout.specs.declared.ends.CheckoutEnd.{CheckoutEnd}
use Rattle.ost_checkout.specs.declared.ends.CheckoutEnd.TheVariants as checkouts
use Rattle.ost_walk.specs.declared.pull_end.PullEnd.{PullEnd}
use Rattle.ost_walk.specs.declared.pull_end.PullEnd.TheVariants as ends

-- The `PullEnd` that the `CheckoutEnd` of this commit is converted to
abbrev pub of_checkout : List ℕ → CheckoutEnd → PullEnd
of_checkout commit checkouts.ReservedName = ends.Refused (refusals.ReservedName commit)
of_checkout commit checkouts.Fault = ends.HostFault
of_checkout commit checkouts.NoMemory = ends.NoMemory
