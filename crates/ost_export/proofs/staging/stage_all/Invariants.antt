use Rattle.std.proofs.Common.{◌≤◌, take}
use Rattle.fp_host.specs.Frame.{AtEnd}
use Rattle.fp_host.specs.Moments.{Always}
use Rattle.ost_commit.specs.Objects.{have_of}
use Rattle.ost_export.specs.Staging.{StagesSome, Works}
use Rattle.ost_export.proofs.staging.stage_all.Given as goal

abbrev pub invariant-loop-object : goal.invariant-loop-object
invariant-loop-object g l = record {
  works : Always (Works l.work) (g.H.Host.moments l.fn.host) (g.H.Host.moments l.host);
  some : AtEnd (StagesSome (have_of l.objects) l.root l.work (take l.object-index l.objects) l.staged.items) (g.H.Host.moments l.fn.host) (g.H.Host.moments l.host);
  later : g.H.Host.faults l.fn.host ≤ g.H.Host.faults l.host;
}
