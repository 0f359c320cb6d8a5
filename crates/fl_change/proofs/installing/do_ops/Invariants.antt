use Rattle.std.proofs.Common.{◌≡◌, drop}
use Rattle.fp_small.specs.declared.state.Layout.TheVariants.{Two}
use Rattle.ost_walk.specs.Ends.{outside}
use Rattle.dep_states.specs.After.{IsGood}
use Rattle.fl_change.specs.Refs.{op_over}
use Rattle.op_change.specs.Applied.{Brings}
use Rattle.std.specs.List.{AllByRecursion}
use Rattle.fl_plan.specs.Allowed.{AreAllowed, IsComing}
use Rattle.fl_change.proofs.Acting.{Turned}
use Rattle.fl_change.proofs.installing.do_ops.Given as goal

abbrev pub invariant-loop-op : goal.invariant-loop-op
invariant-loop-op g l = record {
  good : IsGood l.current;
  layout : l.current.layout ≡ Two;
  allowed : AreAllowed l.current (drop l.op-index l.ops);
  coming : AllByRecursion IsComing (drop l.op-index l.ops);
  turned : Turned op_over l.ops Brings l.fn.opened (drop l.op-index l.ops) l.current l.fn.acted l.acted (outside (g.H.Host.moments l.fn.host) (g.H.Host.faults l.fn.host) (g.R.Remotes.holds l.fn.remotes) (g.R.Remotes.faults l.fn.remotes)) (outside (g.H.Host.moments l.host) (g.H.Host.faults l.host) (g.R.Remotes.holds l.remotes) (g.R.Remotes.faults l.remotes));
}
