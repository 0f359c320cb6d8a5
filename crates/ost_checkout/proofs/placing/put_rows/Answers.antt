use Rattle.std.proofs.Common.{refl, sym, arith}
use Rattle.fp_host.specs.View.{IsTree}
use Rattle.fp_host.proofs.Cause.{same_fault}
use Rattle.fp_host.proofs.Ending.{ends_goes, ends_on, ends_both, ends_in_tree, ends_start, ends_to, fault_caused}
use Rattle.fp_small.proofs.Unsynced.{none_on, none_same}
use Rattle.ost_checkout.specs.Placing.{Fits, CanPut, CanPutRows}
use Rattle.ost_checkout.proofs.Put.{ArePut, none_put, next_put, can_put, nothing_put, going_on, all_put}
use Rattle.ost_checkout.proofs.placing.put_rows.Goals as goal

pub loop-row-init : goal.loop-row-init
loop-row-init g c =
    let t = g.met.H.Host.is_tree in
    record {
      puts = nothing_put (t c.args.host.now);
      put = ends_to (ends_start (t c.args.host.now)) (λ u w same fits. none_put c.args.root.now c.args.rows.now same);
      unsynced = ends_to (ends_start (t c.args.host.now)) (λ u w same. none_same same);
      later = omega arith;
    }

pub loop-row-preserved : goal.loop-row-preserved
loop-row-preserved g c =
    let t = g.met.H.Host.is_tree in
    let before = c.loop-row.invariant in
    let rows = c.args.rows.now in
    let i = c.loop-row.row-index in
    let row = c.row-item.result in
    let low = c.loop-row-test.true in
    let is = sym c.row-item.is in
    record {
      puts = going_on rows i row low is (t c.loop-row.host) before.puts before.put c.put_row.ensures.any_moment;
      put = ends_on (ends_both (ends_goes (t c.loop-row.host) c.put_row.ensures.any_moment) c.in_ok-put_row.ensures.on_success) before.put (t c.loop-row.host) (λ u v w tree q s fits. next_put rows i row low is fits (q fits) s.0 s.1);
      unsynced = ends_on c.put_row.ensures.unsynced before.unsynced (t c.loop-row.host) (λ u v w tree q s. none_on q s);
      later = omega (arith, before.later, c.put_row.ensures.fault_has_cause.later);
    }

pub returns-in_err-put_row-clause-any_moment : goal.returns-in_err-put_row-clause-any_moment
returns-in_err-put_row-clause-any_moment g c =
    going_on c.args.rows.now c.loop-row.row-index c.row-item.result c.loop-row-test.true (sym c.row-item.is) (g.met.H.Host.is_tree c.loop-row.host) c.loop-row.invariant.puts c.loop-row.invariant.put c.put_row.ensures.any_moment

pub returns-in_err-put_row-clause-unsynced : goal.returns-in_err-put_row-clause-unsynced
returns-in_err-put_row-clause-unsynced g c = ends_on c.put_row.ensures.unsynced c.loop-row.invariant.unsynced (g.met.H.Host.is_tree c.loop-row.host) (λ u v w tree q s. none_on q s)

pub returns-in_err-put_row-clause-fault_has_cause : goal.returns-in_err-put_row-clause-fault_has_cause
returns-in_err-put_row-clause-fault_has_cause g c =
    let t = g.met.H.Host.is_tree in
    let root = c.args.root.now in
    let rows = c.args.rows.now in
    let i = c.loop-row.row-index in
    let row = c.row-item.result in
    fault_caused {Q = λ u w. IsTree w × (Fits root rows → ArePut root rows i u w)} (CanPutRows root rows) (CanPut root row) _ _ _ _ _ (t c.args.host.now) c.loop-row.invariant.later
    (ends_in_tree (t c.loop-row.host) c.loop-row.invariant.put (λ u w tree q. (tree, q))) c.put_row.ensures.fault_has_cause (same_fault _ _ _ c.in_err-put_row.was c.from_residual.ensures.1)
    (λ u v tree q can. can_put rows i row c.loop-row-test.true (sym c.row-item.is) can.fits (q.1 can.fits) tree q.0 can refl)

pub returns-clause-on_success : goal.returns-clause-on_success
returns-clause-on_success g c = ends_to c.loop-row.invariant.put (λ u w put fits.
    all_put c.args.rows.now c.loop-row.row-index (omega (arith, c.loop-row-test.false, c.loop-row.auto.row-index-end)) (put fits))
