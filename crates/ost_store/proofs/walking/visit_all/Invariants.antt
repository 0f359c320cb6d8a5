use Rattle.std.proofs.Common.{◌≤◌, take}
use Rattle.fp_host.specs.Frame.{AtEnd, Unchanged}
use Rattle.ost_store.specs.Walks.{VisitsAll}
use Rattle.ost_store.proofs.walking.visit_all.Given as goal

abbrev pub invariant-loop-path : goal.invariant-loop-path
invariant-loop-path g l = record {
  still : Unchanged (g.H.Host.moments l.fn.host) (g.H.Host.moments l.host);
  tells : AtEnd (λ u w. VisitsAll (take l.path-index l.paths) u l.fn.found.items l.found.items l.next.items) (g.H.Host.moments l.fn.host) (g.H.Host.moments l.host);
  later : g.H.Host.faults l.fn.host ≤ g.H.Host.faults l.host;
}
