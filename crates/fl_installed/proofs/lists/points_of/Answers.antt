use Rattle.std.proofs.Common.{arith}
use Rattle.fp_host.proofs.Looking.{looks_within}
use Rattle.ost_model.proofs.Stored.{still_stored}
use Rattle.fl_installed.proofs.Local.{points_next}
use Rattle.fl_installed.proofs.lists.points_of.Goals as goal

pub returns-in_err-points_at-clause-unchanged : goal.returns-in_err-points_at-clause-unchanged
returns-in_err-points_at-clause-unchanged g c = looks_within c.points_at.ensures.unchanged c.loop-row.invariant.still (g.met.H.Host.is_tree c.loop-row.host)

pub returns-in_err-push-clause-unchanged : goal.returns-in_err-push-clause-unchanged
returns-in_err-push-clause-unchanged g c = looks_within c.points_at.ensures.unchanged c.loop-row.invariant.still (g.met.H.Host.is_tree c.loop-row.host)

pub loop-row-preserved : goal.loop-row-preserved
loop-row-preserved g c = record {
  still = looks_within c.points_at.ensures.unchanged c.loop-row.invariant.still (g.met.H.Host.is_tree c.loop-row.host);
  later = omega (arith, c.loop-row.invariant.later, c.points_at.ensures.fault_has_cause.later);
  told = λ have s. points_next have c.args.rows.now c.loop-row.row-index c.row-item.result c.loop-row-test.true c.row-item.is c.loop-row.points c.push.new.self c.in_ok-points_at.field-0
      (c.loop-row.invariant.told have s) (c.in_ok-points_at.ensures.tells have (still_stored c.loop-row.invariant.still s)) c.in_ok-push.ensures.ok;
}
