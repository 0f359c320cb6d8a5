use Rattle.std.proofs.Common.{◌-◌, ℕ, List, length, Ok}
use Rattle.ost_model.specs.Objects.{Have}
use Rattle.ost_model.specs.Remotes.{Supplies}
use Rattle.ost_walk.specs.Ends.{Observes, outside}
use Rattle.ost_walk.specs.Steps.{IsOnTheWay}
use Rattle.ost_walk.proofs.walking.walk.Given as goal

abbrev pub invariant-loop-dir : goal.invariant-loop-dir
invariant-loop-dir g l = record {
  looks : Observes {A = Unit {0}} (Ok tt) (outside (g.H.Host.moments l.fn.host) (g.H.Host.faults l.fn.host) (g.R.Remotes.holds l.fn.remotes) (g.R.Remotes.faults l.fn.remotes))
      (outside (g.H.Host.moments l.host) (g.H.Host.faults l.host) (g.R.Remotes.holds l.remotes) (g.R.Remotes.faults l.remotes));
  way : (have : Have) (commit : List ℕ) → Supplies l.places.root l.places.url (g.H.Host.moments l.fn.host) (g.R.Remotes.holds l.fn.remotes) have
      → IsOnTheWay have commit l.fn.done.items l.fn.left.items → IsOnTheWay have commit l.done.items l.left.items;
}

abbrev pub decreases-loop-dir : goal.decreases-loop-dir
decreases-loop-dir g l = 200000 - length l.done.items
