use Rattle.std.proofs.Common.{◌≤◌, take}
use Rattle.fp_host.specs.Frame.{Frame, AtEnd, NoPath}
use Rattle.ost_refs.specs.Lists.{ListsRefs}
use Rattle.dep_tidy.specs.Steps.{OtherGone, OtherAbsent, HasNoneAt}
use Rattle.dep_tidy.proofs.refs.drop_others.Given as goal

abbrev pub invariant-loop-place : goal.invariant-loop-place
invariant-loop-place g l = record {
  frame : Frame (OtherGone l.state) (OtherAbsent l.state) NoPath (g.H.Host.moments l.fn.host) (g.H.Host.moments l.host);
  none : AtEnd (λ u w. ListsRefs l.root u l.place-items × HasNoneAt l.state (take l.place-index l.place-items) w) (g.H.Host.moments l.fn.host) (g.H.Host.moments l.host);
  later : g.H.Host.faults l.fn.host ≤ g.H.Host.faults l.host;
}
