use Rattle.std.proofs.Common.{◌≤◌}
use Rattle.fp_host.specs.Frame.{AtEnd, Unchanged}
use Rattle.ost_refs.proofs.Found.{FindsFirst}
use Rattle.ost_refs.proofs.listing.places_among.Given as goal

abbrev pub invariant-loop-path : goal.invariant-loop-path
invariant-loop-path g l = record {
  still : Unchanged (g.H.Host.moments l.fn.host) (g.H.Host.moments l.host);
  tells : AtEnd (λ u w. FindsFirst l.paths l.path-index u l.found.entries) (g.H.Host.moments l.fn.host) (g.H.Host.moments l.host);
  later : g.H.Host.faults l.fn.host ≤ g.H.Host.faults l.host;
}
