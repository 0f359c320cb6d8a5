use Rattle.std.proofs.Common.{arith}
use Rattle.fp_host.proofs.Looking.{looks_within}
use Rattle.ost_model.proofs.Stored.{still_stored}
use Rattle.fl_installed.proofs.Local.{metas_next}
use Rattle.fl_installed.proofs.lists.metas_of.Goals as goal

pub returns-in_err-found-clause-unchanged : goal.returns-in_err-found-clause-unchanged
returns-in_err-found-clause-unchanged g c = looks_within c.meta_at.ensures.unchanged c.loop-row.invariant.still (g.met.H.Host.is_tree c.loop-row.host)

pub returns-in_err-add_meta-clause-unchanged : goal.returns-in_err-add_meta-clause-unchanged
returns-in_err-add_meta-clause-unchanged g c = looks_within c.meta_at.ensures.unchanged c.loop-row.invariant.still (g.met.H.Host.is_tree c.loop-row.host)

pub loop-row-preserved : goal.loop-row-preserved
loop-row-preserved g c = record {
  still = looks_within c.meta_at.ensures.unchanged c.loop-row.invariant.still (g.met.H.Host.is_tree c.loop-row.host);
  later = omega (arith, c.loop-row.invariant.later, c.meta_at.ensures.fault_has_cause.later);
  told = λ have s. metas_next have c.args.rows.now c.loop-row.row-index c.row-item.result c.loop-row-test.true c.row-item.is c.loop-row.metas c.add_meta.new.metas c.in_ok-found.found
      (c.loop-row.invariant.told have s) (c.in_ok-found.ensures.tells have (still_stored c.loop-row.invariant.still s)) c.in_ok-add_meta.ensures;
}
