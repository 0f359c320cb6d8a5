use Rattle.std.proofs.Common.{◌≤◌}
use Rattle.fp_host.specs.Frame.{AtEnd, Unchanged}
use Rattle.ost_store.proofs.Levels.{IsAtLevel}
use Rattle.ost_store.proofs.walking.leaves_within.Given as goal

abbrev pub invariant-loop-depth : goal.invariant-loop-depth
invariant-loop-depth g l = record {
  still : Unchanged (g.H.Host.moments l.fn.host) (g.H.Host.moments l.host);
  tells : AtEnd (λ u w. IsAtLevel l._depth l.fn.folder u l.level.items l.found.items) (g.H.Host.moments l.fn.host) (g.H.Host.moments l.host);
  later : g.H.Host.faults l.fn.host ≤ g.H.Host.faults l.host;
}
