use Rattle.std.proofs.Common.{sym, ◌∙◌, arith}
use Rattle.std.proofs.lemmas.List.{drop_all}
use Rattle.fp_base.proofs.Lists.{drop_read}
use Rattle.fl_change.specs.Current.{is_as_offered}
use Rattle.fl_change.proofs.Rows.{one_fails, one_holds, all_hold}
use Rattle.fl_change.proofs.current.are_current.Goals as goal

pub returns-then-not-branch-clause-tells : goal.returns-then-not-branch-clause-tells
returns-then-not-branch-clause-tells g c held told =
    let inv = c.loop-row.invariant in
    sym (one_fails (is_as_offered held c.args.known.now) c.args.rows.now c.loop-row.row-index (inv.rest held told) c.row-item.result
    (drop_read c.args.rows.now c.loop-row.row-index c.row-item.result c.loop-row-test.true c.row-item.is)
    (sym (c.in_ok-is_current.ensures.tells held (inv.same ∙ told)) ∙ c.if-not-branch.true))

pub loop-row-preserved : goal.loop-row-preserved
loop-row-preserved g c =
    let inv = c.loop-row.invariant in
    let asked = c.in_ok-is_current.ensures in
    record {
      same = asked.same ∙ inv.same;
      later = omega (arith, inv.later, asked.fault_has_cause.later);
      rest = λ held told. one_holds (is_as_offered held c.args.known.now) c.args.rows.now c.loop-row.row-index (inv.rest held told) c.row-item.result
          (drop_read c.args.rows.now c.loop-row.row-index c.row-item.result c.loop-row-test.true c.row-item.is)
          (sym (asked.tells held (inv.same ∙ told)) ∙ c.if-not-branch.false);
    }

pub returns-clause-tells : goal.returns-clause-tells
returns-clause-tells g c held told =
    sym (all_hold (is_as_offered held c.args.known.now) c.args.rows.now c.loop-row.row-index (c.loop-row.invariant.rest held told) (drop_all c.loop-row.row-index c.args.rows.now c.loop-row-test.false))
