use Rattle.std.proofs.Common.{◌≡◌, drop}
use Rattle.fp_small.specs.declared.state.Layout.TheVariants.{Two}
use Rattle.ost_walk.specs.Ends.{outside}
use Rattle.dep_states.specs.After.{IsGood}
use Rattle.fl_change.specs.Refs.{target_over}
use Rattle.op_change.specs.Applied.{Brings}
use Rattle.fl_change.proofs.Acting.{Turned}
use Rattle.fl_change.proofs.updating.update_each.Given as goal

abbrev pub invariant-loop-name : goal.invariant-loop-name
invariant-loop-name g l = record {
  good : IsGood l.current;
  layout : l.current.layout ≡ Two;
  turned : Turned target_over l.names Brings l.fn.opened (drop l.name-index l.names) l.current l.fn.acted l.acted (outside (g.H.Host.moments l.fn.host) (g.H.Host.faults l.fn.host) (g.R.Remotes.holds l.fn.remotes) (g.R.Remotes.faults l.fn.remotes)) (outside (g.H.Host.moments l.host) (g.H.Host.faults l.host) (g.R.Remotes.holds l.remotes) (g.R.Remotes.faults l.remotes));
}
