use Rattle.std.proofs.Common.{◌≤◌}
use Rattle.fp_host.specs.Frame.{AtEnd, Unchanged}
use Rattle.ost_refs.specs.Walks.{AreLevel}
use Rattle.ost_refs.proofs.walking.paths_below.Given as goal

abbrev pub invariant-loop-level : goal.invariant-loop-level
invariant-loop-level g l = record {
  still : Unchanged (g.H.Host.moments l.fn.host) (g.H.Host.moments l.host);
  tells : AtEnd (λ u w. AreLevel l._level l.fn.folder u l.paths.items) (g.H.Host.moments l.fn.host) (g.H.Host.moments l.host);
  later : g.H.Host.faults l.fn.host ≤ g.H.Host.faults l.host;
}
