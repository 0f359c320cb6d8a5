use Rattle.std.proofs.Common.{◌≡◌, ◌<◌, List, length, sym, ap, subst, arith, None}
use Rattle.ost_checkout.specs.declared.rows.Row.{Row}
use Rattle.fp_host.specs.View.{View}
use Rattle.fp_host.specs.Outcome.{shows}
use Rattle.fp_host.proofs.Cause.{same_fault}
use Rattle.fp_host.proofs.Ending.{ends_on, ends_both, ends_looks, ends_to, fault_caused}
use Rattle.fp_host.proofs.Looking.{looks_within}
use Rattle.ost_model.specs.Objects.{store}
use Rattle.ost_model.specs.Order.{first_fault}
use Rattle.ost_checkout.specs.Listing.{Expands, CanExpand, CanListRows}
use Rattle.ost_checkout.proofs.Listed.{all_listed}
use Rattle.ost_checkout.proofs.Counted.{AreCounted}
use Rattle.ost_checkout.proofs.Spread.{first_told, first_count, commit_good, next_listed, next_low, next_counted, can_expand}
use Rattle.ost_checkout.proofs.listing.list_rows.Goals as goal

pub loop-next-init : goal.loop-next-init
loop-next-init g c = record {
  still = c.first_row.ensures.unchanged;
  later = c.first_row.ensures.fault_has_cause.later;
  most = omega (arith, ap (λ (l : List Row). length l) c.in_ok-rows.ensures);
  listed = ends_to c.in_ok-first.ensures.tells (λ u w first. (omega arith, first_told c.in_ok-rows.rows.items c.in_ok-first.first c.in_ok-rows.ensures first));
  counted = ends_to c.in_ok-first.ensures.tells (λ u w first whole. first_count c.in_ok-rows.rows.items c.in_ok-first.first c.in_ok-rows.ensures first);
}

pub loop-next-preserved : goal.loop-next-preserved
loop-next-preserved g c =
    let t = g.met.H.Host.is_tree in
    let before = c.loop-next.invariant in
    let root = c.args.root.now in
    let commit = c.args.commit.now in
    let to = c.args.to.now in
    let low : c.loop-next.next < length c.loop-next.rows.items = omega (arith, c.loop-next-test.true, c.len.ensures, c.loop-next.rows.ok.0) in
    let known = ends_both (ends_looks (t c.args.host.now) before.still) (ends_both before.listed before.counted) in
    record {
      still = looks_within c.expand.ensures.unchanged before.still (t c.loop-next.host);
      later = omega (arith, before.later, c.expand.ensures.fault_has_cause.later);
      most = c.in_ok-expand.ensures.most;
      listed = ends_on c.in_ok-expand.ensures.grown known (t c.loop-next.host) (λ u v w tree q ex.
          let e = subst (λ (x : View). Expands root c.loop-next.next x c.loop-next.rows.items c.expand.new.rows.items) q.0.0 ex in
          (next_low low e, next_listed low q.1.0.1 e));
      counted = ends_on c.in_ok-expand.ensures.grown known (t c.loop-next.host) (λ u v w tree q ex whole.
          let e = subst (λ (x : View). Expands root c.loop-next.next x c.loop-next.rows.items c.expand.new.rows.items) q.0.0 ex in
          next_counted low whole q.1.0.1 (q.1.1 whole) e);
    }

pub returns-in_err-first-clause-fault_has_cause : goal.returns-in_err-first-clause-fault_has_cause
returns-in_err-first-clause-fault_has_cause g c = record {
  later = c.first_row.ensures.fault_has_cause.later;
  fault = λ is m at can. c.first_row.ensures.fault_has_cause.fault (same_fault _ _ _ c.in_err-first.was c.from_residual.ensures.1 is) m at (commit_good can);
}

pub returns-in_err-expand-clause-unchanged : goal.returns-in_err-expand-clause-unchanged
returns-in_err-expand-clause-unchanged g c = looks_within c.expand.ensures.unchanged c.loop-next.invariant.still (g.met.H.Host.is_tree c.loop-next.host)

pub returns-in_err-expand-clause-fault_has_cause : goal.returns-in_err-expand-clause-fault_has_cause
returns-in_err-expand-clause-fault_has_cause g c =
    let t = g.met.H.Host.is_tree in
    let root = c.args.root.now in
    let commit = c.args.commit.now in
    let to = c.args.to.now in
    let rows = c.loop-next.rows.items in
    let next = c.loop-next.next in
    let low : c.loop-next.next < length c.loop-next.rows.items = omega (arith, c.loop-next-test.true, c.len.ensures, c.loop-next.rows.ok.0) in
    fault_caused {Q = λ u w. ((w ≡ u) × Unit {0}) × (first_fault (store root (shows u)) commit ≡ None → AreCounted (store root (shows u)) commit to rows next)} (CanListRows root commit) (CanExpand root next rows) _ _ _ _ _ (t c.args.host.now) c.loop-next.invariant.later
    (ends_both (ends_looks (t c.args.host.now) c.loop-next.invariant.still) c.loop-next.invariant.counted) c.expand.ensures.fault_has_cause (same_fault _ _ _ c.in_err-expand.was c.from_residual-in_err-expand.ensures.1)
    (λ u v tree q can. subst (CanExpand root next rows) (sym q.0.0) (can_expand low can.whole (q.1 can.whole)))

pub returns-clause-tells : goal.returns-clause-tells
returns-clause-tells g c = ends_to c.loop-next.invariant.listed (λ u w q. all_listed c.loop-next.rows.items c.loop-next.next (omega (arith, q.0, c.loop-next-test.false, c.len.ensures, c.loop-next.rows.ok.0)) q.1)
