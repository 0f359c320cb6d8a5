use Rattle.std.proofs.lemmas.Result.{on_ok_weaker}
use Rattle.fp_host.proofs.Cause.{passed_on}
use Rattle.ost_checkout.specs.Checkout.{CanCheckOut}
use Rattle.op_change.specs.LayingOut.{CanLayOut}
use Rattle.op_change.proofs.LaidOut.{goes_laid, laid_end, reserved_end, ends_begins, can_begin}
use Rattle.op_change.proofs.laying_out.lay_out.Goals as goal

pub returns-clause-any_moment : goal.returns-clause-any_moment
returns-clause-any_moment g c =
    let t = g.met.H.Host.is_tree in
    goes_laid (t c.args.host.now) (t c.make_above.new.host) c.in_ok-root.ensures c.make_above.ensures.frame c.checkout.ensures.any_moment

pub returns-clause-on_success : goal.returns-clause-on_success
returns-clause-on_success g c =
    let t = g.met.H.Host.is_tree in
    on_ok_weaker c.checkout.result (λ done. laid_end (t c.args.host.now) (t c.make_above.new.host) c.in_ok-root.ensures c.make_above.ensures.frame done) c.checkout.ensures.on_success

pub returns-clause-reserved : goal.returns-clause-reserved
returns-clause-reserved g c is =
    let t = g.met.H.Host.is_tree in
    reserved_end c.args.to.now (t c.args.host.now) (t c.make_above.new.host) c.in_ok-root.ensures c.make_above.ensures.frame (c.checkout.ensures.reserved is)

pub returns-clause-fault_has_cause : goal.returns-clause-fault_has_cause
returns-clause-fault_has_cause g c =
    let t = g.met.H.Host.is_tree in
    passed_on _ _ (CanLayOut c.args.commit.now c.args.to.now) (CanCheckOut c.in_ok-root.root c.args.commit.now c.args.to.now) _ _ _ (t c.args.host.now) c.make_above.ensures.fault_has_cause.later
    (ends_begins c.args.to.now (t c.args.host.now) (t c.make_above.new.host) c.make_above.ensures.frame c.in_ok-make_above.ensures.on_success) c.checkout.ensures.fault_has_cause (λ fault. fault)
    (λ u v tree begins can. can_begin c.in_ok-root.ensures tree begins can)
