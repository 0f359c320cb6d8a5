use Rattle.std.proofs.Common.{◌≤◌, length}
use Rattle.fp_host.specs.Frame.{AtEnd}
use Rattle.fp_host.specs.Moments.{Always}
use Rattle.ost_pull.specs.Placing.{FirstComesLast, PullsReady}
use Rattle.ost_pull.proofs.Last.{UpTo}
use Rattle.ost_pull.proofs.Placed.{Between}
use Rattle.ost_pull.proofs.placing.place_all.Given as goal

abbrev pub invariant-loop-object : goal.invariant-loop-object
invariant-loop-object g l = record {
  pulls : Always (PullsReady l.root l.work l.fn.objects.items) (g.H.Host.moments l.fn.host) (g.H.Host.moments l.host);
  known : AtEnd (Between l.root l.work l.fn.objects.items l.objects.items) (g.H.Host.moments l.fn.host) (g.H.Host.moments l.host);
  order : Always (FirstComesLast l.root l.work l.fn.objects.items) (g.H.Host.moments l.fn.host) (g.H.Host.moments l.host);
  up_to : AtEnd (UpTo l.root l.work l.fn.objects.items l.objects.items) (g.H.Host.moments l.fn.host) (g.H.Host.moments l.host);
  later : g.H.Host.faults l.fn.host ≤ g.H.Host.faults l.host;
}

abbrev pub decreases-loop-object : goal.decreases-loop-object
decreases-loop-object g l = length l.objects.items
