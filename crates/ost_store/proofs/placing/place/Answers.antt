use Rattle.std.proofs.Common.{subst}
use Rattle.fp_host.specs.Paths.{Elements}
use Rattle.fp_host.specs.Calls.{Can, renames}
use Rattle.fp_host.proofs.Cause.{clash_step}
use Rattle.fp_host.proofs.Ending.{ends_call, ends_on, ends_both, ends_goes, goes_last, call_caused}
use Rattle.ost_store.specs.Place.{WasPlaced, CanPlace}
use Rattle.ost_store.proofs.Placed.{making, moving, at_name, was_placed, can_place}
use Rattle.fp_small.proofs.Unsynced.{none_on, none_same, step_none}
use Rattle.fp_host.proofs.Ending.{ends_start, ends_to}
use Rattle.ost_store.proofs.placing.place.Goals as goal

pub returns-in_err-make_above-clause-any_moment : goal.returns-in_err-make_above-clause-any_moment
returns-in_err-make_above-clause-any_moment g c = at_name c.in_ok-path.ensures (goes_last (making (g.met.H.Host.is_tree c.args.host.now) c.make_above.ensures.frame))

pub returns-in_err-rename-clause-any_moment : goal.returns-in_err-rename-clause-any_moment
returns-in_err-rename-clause-any_moment g c =
    let t = g.met.H.Host.is_tree in
    at_name c.in_ok-path.ensures (moving (making (t c.args.host.now) c.make_above.ensures.frame) (t c.make_above.new.host) c.rename.ensures.step)

pub returns-in_err-rename-clause-fault_has_cause : goal.returns-in_err-rename-clause-fault_has_cause
returns-in_err-rename-clause-fault_has_cause g c =
    let t = g.met.H.Host.is_tree in
    let e = c.in_err-rename.ensures in
    let made = ends_both (ends_goes (t c.args.host.now) (making {t = c.args.tmp.now} (t c.args.host.now) c.make_above.ensures.frame)) c.in_ok-make_above.ensures.on_success in
    call_caused (CanPlace c.args.root.now c.args.tmp.now c.args.digest.now c.args.kind) (Can (renames c.args.tmp.now c.in_ok-path.path)) _ _ _ _ _ (t c.args.host.now) c.make_above.ensures.fault_has_cause.later made e.step e.fault_has_cause c.from_residual-in_err-rename.ensures.1 (λ v w step. clash_step step)
    (λ u v tree q can. can_place c.args.root.now c.args.digest.now c.args.kind c.in_ok-path.ensures q.0 q.1 can)

pub returns-clause-any_moment : goal.returns-clause-any_moment
returns-clause-any_moment g c =
    let t = g.met.H.Host.is_tree in
    at_name c.in_ok-path.ensures (moving (making (t c.args.host.now) c.make_above.ensures.frame) (t c.make_above.new.host) c.rename.ensures.step)

pub returns-clause-on_success : goal.returns-clause-on_success
returns-clause-on_success g c =
    let t = g.met.H.Host.is_tree in
    let made = ends_goes (t c.args.host.now) (making {t = c.args.tmp.now} (t c.args.host.now) c.make_above.ensures.frame) in
    ends_on (ends_call (t c.make_above.new.host) c.in_ok-rename.ensures.step) made (t c.make_above.new.host) (λ u v w tree housed step. subst (λ (q : Elements). WasPlaced c.args.tmp.now q u w) c.in_ok-path.ensures (was_placed housed step))

pub returns-in_err-path-clause-unsynced : goal.returns-in_err-path-clause-unsynced
returns-in_err-path-clause-unsynced g c =
    let t = g.met.H.Host.is_tree in
    ends_to (ends_start (t c.args.host.now)) (λ u w same. none_same same)

pub returns-in_err-rename-clause-unsynced : goal.returns-in_err-rename-clause-unsynced
returns-in_err-rename-clause-unsynced g c =
    let t = g.met.H.Host.is_tree in
    ends_on (ends_call (t c.make_above.new.host) c.rename.ensures.step) c.make_above.ensures.unsynced (t c.make_above.new.host) (λ u v w tree q step. none_on q (step_none tt step))

pub returns-clause-unsynced : goal.returns-clause-unsynced
returns-clause-unsynced g c =
    let t = g.met.H.Host.is_tree in
    ends_on (ends_call (t c.make_above.new.host) c.rename.ensures.step) c.make_above.ensures.unsynced (t c.make_above.new.host) (λ u v w tree q step. none_on q (step_none tt step))
