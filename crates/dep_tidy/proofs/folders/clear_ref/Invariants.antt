use Rattle.std.proofs.Common.{◌≤◌, take}
use Rattle.fp_host.specs.Frame.{Frame, AtEnd, NoPath}
use Rattle.fp_small.specs.Naming.{ListsIn}
use Rattle.dep_tidy.specs.Steps.{UnkeptGone, UnkeptAbsent, HasNoneOf}
use Rattle.dep_tidy.proofs.folders.clear_ref.Given as goal

abbrev pub invariant-loop-text : goal.invariant-loop-text
invariant-loop-text g l = record {
  frame : Frame (UnkeptGone l.state) (UnkeptAbsent l.state) NoPath (g.H.Host.moments l.fn.host) (g.H.Host.moments l.host);
  none : AtEnd (λ u w. ListsIn l.folder u l.text-items × HasNoneOf l.state l.name (take l.text-index l.text-items) w) (g.H.Host.moments l.fn.host) (g.H.Host.moments l.host);
  later : g.H.Host.faults l.fn.host ≤ g.H.Host.faults l.host;
}
