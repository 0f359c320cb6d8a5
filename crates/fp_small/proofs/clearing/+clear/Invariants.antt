use Rattle.std.proofs.Common.{◌+◌, ◌≤◌, suc, take}
use Rattle.fp_host.specs.View.{IsTree}
use Rattle.fp_host.specs.Frame.{Frame, AtEnd, NoPath}
use Rattle.fp_small.specs.Clear.{GoneBelow, AbsentBelow}
use Rattle.fp_small.specs.Naming.{ListsIn}
use Rattle.fp_small.proofs.Emptying.{AreCleared, AreReached}
use Rattle.fp_small.proofs.clearing.+clear.Given as goal

abbrev pub decreases-clear_within : goal.decreases-clear_within
decreases-clear_within g l = suc (l.depth + l.depth)

abbrev pub decreases-clear_names : goal.decreases-clear_names
decreases-clear_names g l = l.depth + l.depth

abbrev pub invariant-clear_names-loop-name : goal.invariant-clear_names-loop-name
invariant-clear_names-loop-name g l = record {
  frame : Frame (GoneBelow l.path) (AbsentBelow l.path) NoPath (g.H.Host.moments l.fn.host) (g.H.Host.moments l.host);
  tells : AtEnd (λ u w. ListsIn l.path u l.name-items × AreCleared l.path (take l.name-index l.name-items) w) (g.H.Host.moments l.fn.host) (g.H.Host.moments l.host);
  reached : AtEnd (λ u w. IsTree u × AreReached l.path l.depth (take l.name-index l.name-items) u w) (g.H.Host.moments l.fn.host) (g.H.Host.moments l.host);
  later : g.H.Host.faults l.fn.host ≤ g.H.Host.faults l.host;
}
