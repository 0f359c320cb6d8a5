use Rattle.std.proofs.Common.{◌≤◌, ◌-◌, length}
use Rattle.fp_host.specs.Frame.{AtEnd, Unchanged}
use Rattle.ost_fsck.proofs.Reporting.{SoFar}
use Rattle.ost_fsck.proofs.checking.check_all.Given as goal

abbrev pub invariant-loop-at : goal.invariant-loop-at
invariant-loop-at g l = record {
  low : l.at ≤ length l.paths;
  still : Unchanged (g.H.Host.moments l.fn.host) (g.H.Host.moments l.host);
  later : g.H.Host.faults l.fn.host ≤ g.H.Host.faults l.host;
  few : l.objects ≤ l.at;
  seen : AtEnd (λ u w. SoFar l.root l.paths l.at u l.findings.items l.objects) (g.H.Host.moments l.fn.host) (g.H.Host.moments l.host);
}

abbrev pub decreases-loop-at : goal.decreases-loop-at
decreases-loop-at g l = length l.paths - l.at
