use Rattle.std.proofs.Common.{◌≤◌, take}
use Rattle.fp_host.specs.Frame.{Frame, AtEnd, Keeps, NoPath}
use Rattle.fp_small.specs.Unsynced.{MakesNoFile}
use Rattle.ost_prune.specs.Removing.{GoneAmong, AbsentAmong, AreGone}
use Rattle.ost_prune.proofs.removing.remove_each.Given as goal

abbrev pub invariant-loop-object : goal.invariant-loop-object
invariant-loop-object g l = record {
  frame : Frame (GoneAmong l.root l.objects) (AbsentAmong l.root l.objects) NoPath (g.H.Host.moments l.fn.host) (g.H.Host.moments l.host);
  kept : AtEnd (λ u w. Keeps (GoneAmong l.root (take l.object-index l.objects)) (AbsentAmong l.root (take l.object-index l.objects)) NoPath u w
      × AreGone l.root (take l.object-index l.objects) w) (g.H.Host.moments l.fn.host) (g.H.Host.moments l.host);
  unsynced : AtEnd MakesNoFile (g.H.Host.moments l.fn.host) (g.H.Host.moments l.host);
  later : g.H.Host.faults l.fn.host ≤ g.H.Host.faults l.host;
}
