use Rattle.std.proofs.Common.{◌≤◌, length}
use Rattle.fp_host.specs.Frame.{AtEnd}
use Rattle.fp_host.specs.Moments.{Always}
use Rattle.ost_model.specs.Objects.{Have}
use Rattle.ost_export.specs.Placing.{PutsReady}
use Rattle.ost_export.proofs.Placed.{Between}
use Rattle.ost_export.proofs.placing.place_all.Given as goal

abbrev pub invariant-loop-object : goal.invariant-loop-object
invariant-loop-object g l = record {
  puts : (have : Have) → Always (PutsReady have l.root l.work l.fn.objects.items) (g.H.Host.moments l.fn.host) (g.H.Host.moments l.host);
  known : (have : Have) → AtEnd (Between have l.root l.work l.fn.objects.items l.objects.items) (g.H.Host.moments l.fn.host) (g.H.Host.moments l.host);
  later : g.H.Host.faults l.fn.host ≤ g.H.Host.faults l.host;
}

abbrev pub decreases-loop-object : goal.decreases-loop-object
decreases-loop-object g l = length l.objects.items
