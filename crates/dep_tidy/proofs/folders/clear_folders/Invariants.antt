use Rattle.std.proofs.Common.{◌≤◌, take}
use Rattle.fp_host.specs.Frame.{Frame, AtEnd, NoPath}
use Rattle.dep_states.specs.Branches.{AreBranches}
use Rattle.dep_tidy.specs.Steps.{UnkeptGone, UnkeptAbsent, HasNoneIn}
use Rattle.dep_tidy.proofs.folders.clear_folders.Given as goal

abbrev pub invariant-loop-path : goal.invariant-loop-path
invariant-loop-path g l = record {
  frame : Frame (UnkeptGone l.state) (UnkeptAbsent l.state) NoPath (g.H.Host.moments l.fn.host) (g.H.Host.moments l.host);
  none : AtEnd (λ u w. AreBranches u l.path-items × HasNoneIn l.state (take l.path-index l.path-items) w) (g.H.Host.moments l.fn.host) (g.H.Host.moments l.host);
  later : g.H.Host.faults l.fn.host ≤ g.H.Host.faults l.host;
}
