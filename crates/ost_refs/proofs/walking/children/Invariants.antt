use Rattle.std.proofs.Common.{◌≤◌, take}
use Rattle.fp_host.specs.Frame.{AtEnd, Unchanged}
use Rattle.ost_refs.specs.Walks.{AreBelow}
use Rattle.ost_refs.proofs.walking.children.Given as goal

abbrev pub invariant-loop-folder : goal.invariant-loop-folder
invariant-loop-folder g l = record {
  still : Unchanged (g.H.Host.moments l.fn.host) (g.H.Host.moments l.host);
  tells : AtEnd (λ u w. AreBelow (take l.folder-index l.folders) u l.paths.items) (g.H.Host.moments l.fn.host) (g.H.Host.moments l.host);
  later : g.H.Host.faults l.fn.host ≤ g.H.Host.faults l.host;
}
