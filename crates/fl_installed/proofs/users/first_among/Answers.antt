use Rattle.std.proofs.Common.{sym, ◌∙◌, arith}
use Rattle.fp_host.proofs.Looking.{looks_within}
use Rattle.ost_model.proofs.Stored.{still_stored}
use Rattle.fl_installed.proofs.Local.{user_later}
use Rattle.fl_installed.proofs.users.first_among.Goals as goal

pub returns-in_err-names_it-clause-unchanged : goal.returns-in_err-names_it-clause-unchanged
returns-in_err-names_it-clause-unchanged g c = looks_within c.names_it.ensures.unchanged c.loop-row.invariant.still (g.met.H.Host.is_tree c.loop-row.host)

pub returns-in_err-copy-clause-unchanged : goal.returns-in_err-copy-clause-unchanged
returns-in_err-copy-clause-unchanged g c = looks_within c.names_it.ensures.unchanged c.loop-row.invariant.still (g.met.H.Host.is_tree c.loop-row.host)

pub returns-then-branch-clause-unchanged : goal.returns-then-branch-clause-unchanged
returns-then-branch-clause-unchanged g c = looks_within c.names_it.ensures.unchanged c.loop-row.invariant.still (g.met.H.Host.is_tree c.loop-row.host)

pub loop-row-preserved : goal.loop-row-preserved
loop-row-preserved g c = record {
  still = looks_within c.names_it.ensures.unchanged c.loop-row.invariant.still (g.met.H.Host.is_tree c.loop-row.host);
  later = omega (arith, c.loop-row.invariant.later, c.names_it.ensures.fault_has_cause.later);
  rest = λ have s. user_later have c.args.runtime.now c.args.rows.now c.loop-row.row-index c.row-item.result c.loop-row-test.true c.row-item.is
      (sym c.if-branch.false ∙ c.in_ok-names_it.ensures.tells have (still_stored c.loop-row.invariant.still s)) (c.loop-row.invariant.rest have s);
}
