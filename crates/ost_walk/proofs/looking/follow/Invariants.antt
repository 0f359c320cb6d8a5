use Rattle.std.proofs.Common.{◌≤◌, ℕ, List, [], drop, length, Ok}
use Rattle.ost_model.specs.Objects.{Have}
use Rattle.ost_model.specs.Remotes.{Supplies}
use Rattle.ost_walk.specs.Ends.{Observes, outside}
use Rattle.ost_walk.specs.Looked.{IsHere, IsLow}
use Rattle.ost_walk.proofs.looking.follow.Given as goal

abbrev pub invariant-loop-left : goal.invariant-loop-left
invariant-loop-left g l = record {
  looks : Observes {A = Unit {0}} (Ok tt) (outside (g.H.Host.moments l.fn.host) (g.H.Host.faults l.fn.host) (g.R.Remotes.holds l.fn.remotes) (g.R.Remotes.faults l.fn.remotes))
      (outside (g.H.Host.moments l.host) (g.H.Host.faults l.host) (g.R.Remotes.holds l.remotes) (g.R.Remotes.faults l.remotes));
  within : l.left ≤ length l.path;
  low : IsLow l.here;
  here : (have : Have) (commit : List ℕ) → Supplies l.places.root l.places.url (g.H.Host.moments l.fn.host) (g.R.Remotes.holds l.fn.remotes) have
      → IsHere have commit [] l.fn.root → IsHere have commit (drop l.left l.path) l.here;
}

abbrev pub decreases-loop-left : goal.decreases-loop-left
decreases-loop-left g l = l.left
