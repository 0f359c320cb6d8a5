use Rattle.std.proofs.Common.{◌≡◌, List, sym, ◌∙◌, ap, subst}
use Rattle.std.specs.Prelude.{IsErrOf}
use Rattle.std.specs.List.{list_any}
use Rattle.fp_host.specs.Paths.{path_eq}
use Rattle.ost_checkout.specs.declared.ends.CheckoutEnd.TheVariants as ends
use Rattle.ost_checkout.specs.Checkout.{CanCheckOut}
use Rattle.fp_host.specs.View.{View}
use Rattle.fp_host.specs.declared.host.HostEnd.TheVariants as host_ends
use Rattle.fp_host.proofs.Cause.{passed_on}
use Rattle.fp_host.proofs.Ending.{ends_on, ends_both, ends_looks, ends_to}
use Rattle.fp_small.specs.Unsynced.{MakesNoFile}
use Rattle.fp_small.proofs.Unsynced.{none_same}
use Rattle.ost_checkout.proofs.Laid.{looked, laying, checked_out, is_reserved, can_put_rows}
use Rattle.ost_checkout.specs.declared.rows.Row.{Row}
use Rattle.ost_checkout.specs.Listing.{HasRows}
use Rattle.ost_checkout.specs.Placing.{CanPutRows}
use Rattle.ost_checkout.proofs.Ended.{never_reserved, host_fault}
use Rattle.ost_checkout.proofs.laying.checkout.Goals as goal

pub returns-in_err-rows-clause-any_moment : goal.returns-in_err-rows-clause-any_moment
returns-in_err-rows-clause-any_moment g c = looked (g.met.H.Host.is_tree c.args.host.now) c.list_rows.ensures.unchanged

pub returns-in_err-rows-clause-unsynced : goal.returns-in_err-rows-clause-unsynced
returns-in_err-rows-clause-unsynced g c = ends_to (ends_looks (g.met.H.Host.is_tree c.args.host.now) c.list_rows.ensures.unchanged) (λ u w q. none_same q.0)

pub returns-in_err-reserved-clause-any_moment : goal.returns-in_err-reserved-clause-any_moment
returns-in_err-reserved-clause-any_moment g c = looked (g.met.H.Host.is_tree c.args.host.now) c.list_rows.ensures.unchanged

pub returns-in_err-reserved-clause-unsynced : goal.returns-in_err-reserved-clause-unsynced
returns-in_err-reserved-clause-unsynced g c = ends_to (ends_looks (g.met.H.Host.is_tree c.args.host.now) c.list_rows.ensures.unchanged) (λ u w q. none_same q.0)

pub returns-in_err-rows-clause-reserved : goal.returns-in_err-rows-clause-reserved
returns-in_err-rows-clause-reserved g c is = absurd (never_reserved _ _ c.from_residual.ensures.1 is)

pub returns-in_err-rows-clause-fault_has_cause : goal.returns-in_err-rows-clause-fault_has_cause
returns-in_err-rows-clause-fault_has_cause g c = record {
  later = c.list_rows.ensures.fault_has_cause.later;
  fault = λ is m at can. c.list_rows.ensures.fault_has_cause.fault (host_fault _ _ _ c.in_err-rows.was c.from_residual.ensures.1 is) m at (record { whole = can.whole });
}

pub returns-then-has_path-clause-any_moment : goal.returns-then-has_path-clause-any_moment
returns-then-has_path-clause-any_moment g c = looked (g.met.H.Host.is_tree c.args.host.now) c.list_rows.ensures.unchanged

pub returns-then-has_path-clause-reserved : goal.returns-then-has_path-clause-reserved
returns-then-has_path-clause-reserved g c is =
    let t = g.met.H.Host.is_tree in
    let rows = c.deref.result.now in
    ends_to (ends_both (ends_looks (t c.args.host.now) c.list_rows.ensures.unchanged) c.in_ok-rows.ensures.tells)
    (λ u w q. (q.0.0, is_reserved c.args.root.now u c.in_ok-reserved.reserved c.in_ok-reserved.ensures (subst (λ (l : List Row). HasRows c.args.root.now c.args.commit.now c.args.to.now u l) (sym c.deref.ensures.value) q.1) (sym c.has_path.ensures ∙ c.if-has_path.true)))

pub returns-then-has_path-clause-unsynced : goal.returns-then-has_path-clause-unsynced
returns-then-has_path-clause-unsynced g c = ends_to (ends_looks (g.met.H.Host.is_tree c.args.host.now) c.list_rows.ensures.unchanged) (λ u w q. none_same q.0)

pub returns-in_err-put_rows-clause-any_moment : goal.returns-in_err-put_rows-clause-any_moment
returns-in_err-put_rows-clause-any_moment g c =
    let t = g.met.H.Host.is_tree in
    laying (t c.args.host.now) (t c.list_rows.new.host) c.list_rows.ensures.unchanged (ends_to c.in_ok-rows.ensures.tells (λ u w r. subst (λ (l : List Row). HasRows c.args.root.now c.args.commit.now c.args.to.now u l) (sym c.deref-2.ensures.value) r)) c.put_rows.ensures.any_moment

pub returns-in_err-put_rows-clause-unsynced : goal.returns-in_err-put_rows-clause-unsynced
returns-in_err-put_rows-clause-unsynced g c =
    let t = g.met.H.Host.is_tree in
    ends_on c.put_rows.ensures.unsynced (ends_looks (t c.args.host.now) c.list_rows.ensures.unchanged) (t c.list_rows.new.host) (λ u v w tree q s. subst (λ (x : View). MakesNoFile x w) q.0 s)

pub returns-clause-any_moment : goal.returns-clause-any_moment
returns-clause-any_moment g c =
    let t = g.met.H.Host.is_tree in
    laying (t c.args.host.now) (t c.list_rows.new.host) c.list_rows.ensures.unchanged (ends_to c.in_ok-rows.ensures.tells (λ u w r. subst (λ (l : List Row). HasRows c.args.root.now c.args.commit.now c.args.to.now u l) (sym c.deref-2.ensures.value) r)) c.put_rows.ensures.any_moment

pub returns-clause-on_success : goal.returns-clause-on_success
returns-clause-on_success g c =
    let t = g.met.H.Host.is_tree in
    checked_out c.in_ok-reserved.reserved c.in_ok-reserved.ensures (ap (λ (l : List Row). list_any (λ row. path_eq row.path c.in_ok-reserved.reserved) l) (c.deref-2.ensures.value ∙ sym c.deref.ensures.value) ∙ sym c.has_path.ensures ∙ c.if-has_path.false) (t c.args.host.now) (t c.list_rows.new.host) (t c.put_rows.new.host) c.list_rows.ensures.unchanged (ends_to c.in_ok-rows.ensures.tells (λ u w r. subst (λ (l : List Row). HasRows c.args.root.now c.args.commit.now c.args.to.now u l) (sym c.deref-2.ensures.value) r))
    c.put_rows.ensures.any_moment c.in_ok-put_rows.ensures.on_success

pub returns-clause-unsynced : goal.returns-clause-unsynced
returns-clause-unsynced g c =
    let t = g.met.H.Host.is_tree in
    ends_on c.put_rows.ensures.unsynced (ends_looks (t c.args.host.now) c.list_rows.ensures.unchanged) (t c.list_rows.new.host) (λ u v w tree q s. subst (λ (x : View). MakesNoFile x w) q.0 s)

pub returns-in_err-put_rows-clause-reserved : goal.returns-in_err-put_rows-clause-reserved
returns-in_err-put_rows-clause-reserved g c is = absurd (never_reserved _ _ c.from_residual-in_err-put_rows.ensures.1 is)

pub returns-in_err-put_rows-clause-fault_has_cause : goal.returns-in_err-put_rows-clause-fault_has_cause
returns-in_err-put_rows-clause-fault_has_cause g c =
    let t = g.met.H.Host.is_tree in
    let root = c.args.root.now in
    let commit = c.args.commit.now in
    let to = c.args.to.now in
    passed_on {Q = λ u w. ((w ≡ u) × Unit {0}) × HasRows root commit to u c.deref-2.result.now} (IsErrOf c.from_residual-in_err-put_rows.result ends.Fault) (IsErrOf c.put_rows.result host_ends.Fault) (CanCheckOut root commit to) (CanPutRows root c.deref-2.result.now) _ _ _
    (t c.args.host.now) c.list_rows.ensures.fault_has_cause.later
    (ends_both (ends_looks (t c.args.host.now) c.list_rows.ensures.unchanged) (ends_to c.in_ok-rows.ensures.tells (λ u w r. subst (λ (l : List Row). HasRows root commit to u l) (sym c.deref-2.ensures.value) r))) c.put_rows.ensures.fault_has_cause
    (host_fault _ _ _ c.in_err-put_rows.was c.from_residual-in_err-put_rows.ensures.1) (λ u v tree q can. can_put_rows q.0.0 tree q.1 can)
