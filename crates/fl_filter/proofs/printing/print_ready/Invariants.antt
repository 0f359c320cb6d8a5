use Rattle.std.proofs.Common.{List, ◌≤◌}
use Rattle.fp_host.specs.Moments.{Goes}
use Rattle.bus_policy.specs.Events.{Event}
use Rattle.bus_proxy.specs.declared.out.Out.{Out}
use Rattle.bus_proxy.specs.Arrivals.{Pieces}
use Rattle.bus_proxy.specs.Outs.{Setting}
use Rattle.bus_proxy.specs.Filters.{FilterAt, unread}
use Rattle.fl_filter.proofs.Remaining.{Ready}
use Rattle.fl_filter.proofs.printing.print_ready.Given as goal

abbrev pub invariant-loop-out : goal.invariant-loop-out
invariant-loop-out g l = record {
  ready : (s : Setting) (fed : Pieces) (taken : List Event) (given : List Out) → FilterAt l.initial.filter s fed taken given
      → Ready l.filter s fed given (g.H.Host.moments l.initial.host) (g.H.Host.moments l.host);
  goes : Goes (g.H.Host.moments l.initial.host) (g.H.Host.moments l.host) (λ u w. Unit {0}) (λ u w. Unit {0});
  later : g.H.Host.faults l.initial.host ≤ g.H.Host.faults l.host;
}

abbrev pub decreases-loop-out : goal.decreases-loop-out
decreases-loop-out g l = unread l.filter
