use Rattle.std.proofs.Common.{◌≡◌, ◌≤◌, ◌-◌, None, length}
use Rattle.fp_host.specs.Outcome.{shows}
use Rattle.fp_host.specs.Frame.{AtEnd, Unchanged}
use Rattle.ost_model.specs.Objects.{store}
use Rattle.ost_model.specs.Order.{first_fault}
use Rattle.ost_checkout.specs.Listing.{most_rows}
use Rattle.ost_checkout.proofs.Listed.{AreListed}
use Rattle.ost_checkout.proofs.Counted.{AreCounted}
use Rattle.ost_checkout.proofs.listing.list_rows.Given as goal

abbrev pub invariant-loop-next : goal.invariant-loop-next
invariant-loop-next g l = record {
  still : Unchanged (g.H.Host.moments l.fn.host) (g.H.Host.moments l.host);
  later : g.H.Host.faults l.fn.host ≤ g.H.Host.faults l.host;
  most : length l.rows.items ≤ most_rows;
  listed : AtEnd (λ u w. (l.next ≤ length l.rows.items) × AreListed (store l.root (shows u)) l.commit l.to l.rows.items l.next) (g.H.Host.moments l.fn.host) (g.H.Host.moments l.host);
  counted : AtEnd (λ u w. first_fault (store l.root (shows u)) l.commit ≡ None → AreCounted (store l.root (shows u)) l.commit l.to l.rows.items l.next) (g.H.Host.moments l.fn.host) (g.H.Host.moments l.host);
}

abbrev pub decreases-loop-next : goal.decreases-loop-next
decreases-loop-next g l = most_rows - l.next
