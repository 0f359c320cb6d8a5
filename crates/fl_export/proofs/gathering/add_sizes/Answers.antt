use Rattle.std.proofs.Common.{arith}
use Rattle.fp_host.proofs.Looking.{looks_within}
use Rattle.ost_object.specs.Views.{dir_row}
use Rattle.fl_export.specs.Exported.{icons_of}
use Rattle.fl_export.proofs.Gather.{flat_map_grows}
use Rattle.ost_model.proofs.Stored.{still_stored}
use Rattle.fl_export.proofs.gathering.add_sizes.Goals as goal

pub returns-in_err-add_size-clause-unchanged : goal.returns-in_err-add_size-clause-unchanged
returns-in_err-add_size-clause-unchanged g c = looks_within c.add_size.ensures.unchanged c.loop-size.invariant.still (g.met.H.Host.is_tree c.loop-size.host)

pub loop-size-preserved : goal.loop-size-preserved
loop-size-preserved g c = record {
  still = looks_within c.add_size.ensures.unchanged c.loop-size.invariant.still (g.met.H.Host.is_tree c.loop-size.host);
  later = omega (arith, c.loop-size.invariant.later, c.add_size.ensures.fault_has_cause.later);
  told = λ have s. flat_map_grows (icons_of have c.args.name.now) dir_row c.args.sizes.now c.loop-size.size-index c.size-item.result c.loop-size-test.true c.size-item.is _ c.loop-size.rows.items c.add_size.new.rows.items
      (c.loop-size.invariant.told have s) (c.in_ok-add_size.ensures.tells have (still_stored c.loop-size.invariant.still s));
}
