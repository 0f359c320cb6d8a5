use Rattle.std.proofs.Common.{[], ◌∷◌, ◌+◌, arith}
use Rattle.fp_host.specs.View.{IsTree}
use Rattle.fp_host.proofs.Cause.{same_fault}
use Rattle.fp_host.proofs.Goes.{goes_on, stays}
use Rattle.fp_host.proofs.Ending.{ends_on, ends_both, ends_goes, ends_start, ends_in_tree, ends_to, fault_caused}
use Rattle.fl_export.specs.Steps.{CanPutRows}
use Rattle.fl_export.proofs.PutRows.{puts_none, puts_on, all_none, all_next, all_all, can_next, WereSomePut}
use Rattle.fl_export.proofs.placing.put_rows.Goals as goal

pub loop-row-init : goal.loop-row-init
loop-row-init g c =
    let t = g.met.H.Host.is_tree in
    record {
      puts = stays (t c.args.host.now) (λ u. puts_none) (λ u t. puts_none);
      put = ends_to (ends_start (t c.args.host.now)) (λ u w same. all_none c.args.rows.now same);
      later = omega arith;
    }

pub loop-row-preserved : goal.loop-row-preserved
loop-row-preserved g c =
    let t = g.met.H.Host.is_tree in
    let h = t c.loop-row.host in
    let before = c.loop-row.invariant in
    record {
      puts = goes_on h before.puts c.put_row.ensures.any_moment (λ u v w tree r q x. puts_on c.args.rows.now c.loop-row.row-index c.row-item.result c.loop-row-test.true c.row-item.is r x) (λ u v w tree r q x e. puts_on c.args.rows.now c.loop-row.row-index c.row-item.result c.loop-row-test.true c.row-item.is r e);
      put = ends_in_tree (t c.put_row.new.host) (ends_on {Q' = λ u w. IsTree w → WereSomePut c.args.rows.now (c.loop-row.row-index + 1) u w}
          (ends_both (ends_goes h c.put_row.ensures.any_moment) c.in_ok-put_row.ensures.on_success) before.put h
          (λ u v w tree q x next. all_next c.args.rows.now c.loop-row.row-index c.row-item.result c.loop-row-test.true c.row-item.is tree next q x.0 x.1))
          (λ u w next q. q next);
      later = omega (arith, before.later, c.put_row.ensures.fault_has_cause.later);
    }

pub returns-in_err-put_row-clause-any_moment : goal.returns-in_err-put_row-clause-any_moment
returns-in_err-put_row-clause-any_moment g c =
    goes_on (g.met.H.Host.is_tree c.loop-row.host) c.loop-row.invariant.puts c.put_row.ensures.any_moment (λ u v w tree r q x. puts_on c.args.rows.now c.loop-row.row-index c.row-item.result c.loop-row-test.true c.row-item.is r x) (λ u v w tree r q x e. puts_on c.args.rows.now c.loop-row.row-index c.row-item.result c.loop-row-test.true c.row-item.is r e)

pub returns-in_err-put_row-clause-fault_has_cause : goal.returns-in_err-put_row-clause-fault_has_cause
returns-in_err-put_row-clause-fault_has_cause g c =
    let t = g.met.H.Host.is_tree in
    fault_caused (CanPutRows c.args.rows.now) (CanPutRows (c.row-item.result ∷ [])) _ _ _ _ _ (t c.args.host.now) c.loop-row.invariant.later (ends_goes (t c.args.host.now) c.loop-row.invariant.puts) c.put_row.ensures.fault_has_cause
    (same_fault _ _ _ c.in_err-put_row.was c.from_residual.ensures.1)
    (λ u v tree puts can. can_next c.args.rows.now c.loop-row.row-index c.row-item.result c.loop-row-test.true c.row-item.is can puts)

pub returns-clause-on_success : goal.returns-clause-on_success
returns-clause-on_success g c = ends_to c.loop-row.invariant.put (λ u w q. all_all c.args.rows.now c.loop-row.row-index c.loop-row-test.false q)
