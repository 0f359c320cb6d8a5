use Rattle.std.proofs.Common.{arith}
use Rattle.fp_host.proofs.Looking.{looks_within}
use Rattle.fl_export.specs.Exported.{exported_at}
use Rattle.fl_export.proofs.Gather.{flat_next}
use Rattle.ost_model.proofs.Stored.{still_stored}
use Rattle.fl_export.proofs.listing.all_exported.Goals as goal

pub returns-in_err-add_exports-clause-unchanged : goal.returns-in_err-add_exports-clause-unchanged
returns-in_err-add_exports-clause-unchanged g c = looks_within c.add_exports.ensures.unchanged c.loop-row.invariant.still (g.met.H.Host.is_tree c.loop-row.host)

pub loop-row-preserved : goal.loop-row-preserved
loop-row-preserved g c = record {
  still = looks_within c.add_exports.ensures.unchanged c.loop-row.invariant.still (g.met.H.Host.is_tree c.loop-row.host);
  later = omega (arith, c.loop-row.invariant.later, c.add_exports.ensures.fault_has_cause.later);
  told = λ have s. flat_next (exported_at have) c.args.refs.now c.loop-row.row-index c.row-item.result c.loop-row-test.true c.row-item.is c.loop-row.rows.items c.add_exports.new.rows.items
      (c.loop-row.invariant.told have s) (c.in_ok-add_exports.ensures.tells have (still_stored c.loop-row.invariant.still s));
}
