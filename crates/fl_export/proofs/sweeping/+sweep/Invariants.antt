use Rattle.std.proofs.Common.{◌+◌, ◌≤◌, suc, take}
use Rattle.fp_host.specs.Paths.{IsAbove}
use Rattle.fp_host.specs.View.{IsTree}
use Rattle.fp_host.specs.Frame.{AtEnd}
use Rattle.fp_host.specs.Moments.{Always}
use Rattle.fp_small.specs.Naming.{ListsIn}
use Rattle.fp_small.proofs.Emptying.{AreReached}
use Rattle.fl_export.specs.Steps.{Sweeps}
use Rattle.fl_export.proofs.Swept.{AreSwept}
use Rattle.fl_export.proofs.sweeping.+sweep.Given as goal

abbrev pub decreases-sweep_within : goal.decreases-sweep_within
decreases-sweep_within g l = suc (l.depth + l.depth)

abbrev pub decreases-sweep_names : goal.decreases-sweep_names
decreases-sweep_names g l = l.depth + l.depth

abbrev pub invariant-sweep_names-loop-name : goal.invariant-sweep_names-loop-name
invariant-sweep_names-loop-name g l = record {
  sweeps : Always (Sweeps (IsAbove l.path) l.places) (g.H.Host.moments l.fn.host) (g.H.Host.moments l.host);
  swept : AtEnd (λ u w. ListsIn l.path u l.name-items × AreSwept l.path l.places (take l.name-index l.name-items) w) (g.H.Host.moments l.fn.host) (g.H.Host.moments l.host);
  reached : AtEnd (λ u w. IsTree u × AreReached l.path l.depth (take l.name-index l.name-items) u w) (g.H.Host.moments l.fn.host) (g.H.Host.moments l.host);
  later : g.H.Host.faults l.fn.host ≤ g.H.Host.faults l.host;
}
