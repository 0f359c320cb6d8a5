use Rattle.std.proofs.Common.{◌≡◌, drop, Some, Ok}
use Rattle.fp_host.specs.Remote.{Holdings}
use Rattle.fp_small.specs.Places.{repo}
use Rattle.ost_model.specs.Objects.{Have}
use Rattle.ost_model.specs.Remotes.{Stores}
use Rattle.ost_walk.specs.Ends.{outside}
use Rattle.ost_walk.specs.PullEnds.{Looks}
use Rattle.fl_plan.specs.Allowed.{IsPlan}
use Rattle.fl_plan.specs.Extensions.{with_points}
use Rattle.fl_plan.proofs.extensions.with_points.Given as goal

abbrev pub invariant-loop-point : goal.invariant-loop-point
invariant-loop-point g l = record {
  looks : Looks {A = Unit {0}} (Ok tt) (outside (g.H.Host.moments l.fn.host) (g.H.Host.faults l.fn.host) (g.R.Remotes.holds l.fn.remotes) (g.R.Remotes.faults l.fn.remotes))
      (outside (g.H.Host.moments l.host) (g.H.Host.faults l.host) (g.R.Remotes.holds l.remotes) (g.R.Remotes.faults l.remotes));
  rest : (held : Holdings) (stored : Have) → g.R.Remotes.holds l.fn.remotes ≡ Some held → Stores repo (g.H.Host.moments l.fn.host) stored
      → with_points held stored l.state l.remote l.points l.fn.plan ≡ with_points held stored l.state l.remote (drop l.point-index l.points) l.plan;
  good : IsPlan l.state l.plan;
}
