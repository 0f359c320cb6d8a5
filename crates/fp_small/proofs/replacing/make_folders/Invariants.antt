use Rattle.std.proofs.Common.{◌≤◌, take}
use Rattle.fp_host.specs.Frame.{Frame, AtEnd, NoPath}
use Rattle.fp_small.specs.Unsynced.{MakesNoFile}
use Rattle.fp_small.specs.Folders.{FoldersAt, DirsAt, AreFree, AreDirs}
use Rattle.fp_small.proofs.replacing.make_folders.Given as goal

abbrev pub invariant-loop-path : goal.invariant-loop-path
invariant-loop-path g l = record {
  frame : Frame (FoldersAt l.paths) (DirsAt l.paths) NoPath (g.H.Host.moments l.fn.host) (g.H.Host.moments l.host);
  done : AtEnd (λ u w. AreFree l.paths u → AreFree l.paths w × AreDirs (take l.path-index l.paths) w) (g.H.Host.moments l.fn.host) (g.H.Host.moments l.host);
  unsynced : AtEnd MakesNoFile (g.H.Host.moments l.fn.host) (g.H.Host.moments l.host);
  later : g.H.Host.faults l.fn.host ≤ g.H.Host.faults l.host;
}
