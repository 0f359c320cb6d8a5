use Rattle.fp_host.specs.Calls.{Can, makes_link}
use Rattle.fp_host.proofs.Cause.{clash_step}
use Rattle.fp_host.proofs.Ending.{ends_call, ends_on, ends_both, ends_frame, goes_last, call_caused}
use Rattle.ost_model.specs.declared.object.Object.TheVariants as objects
use Rattle.ost_store.specs.Stage.{CanStage}
use Rattle.ost_store.proofs.Staged.{making, linking, linked, can_link}
use Rattle.fp_small.proofs.Unsynced.{none_on, step_none}
use Rattle.ost_store.proofs.staging.stage_link.Goals as goal

pub returns-in_err-make_above-clause-any_moment : goal.returns-in_err-make_above-clause-any_moment
returns-in_err-make_above-clause-any_moment g c = goes_last (making (objects.Link c.args.text.now) (g.met.H.Host.is_tree c.args.host.now) c.make_above.ensures.frame)

pub returns-in_err-symlink-clause-any_moment : goal.returns-in_err-symlink-clause-any_moment
returns-in_err-symlink-clause-any_moment g c = let t = g.met.H.Host.is_tree in linking (t c.args.host.now) c.make_above.ensures.frame (t c.make_above.new.host) c.symlink.ensures.step

pub returns-in_err-symlink-clause-fault_has_cause : goal.returns-in_err-symlink-clause-fault_has_cause
returns-in_err-symlink-clause-fault_has_cause g c =
    let t = g.met.H.Host.is_tree in
    let e = c.in_err-symlink.ensures in
    let made = ends_both (ends_frame (t c.args.host.now) c.make_above.ensures.frame) c.in_ok-make_above.ensures.on_success in
    call_caused (CanStage c.args.tmp.now (objects.Link c.args.text.now)) (Can (makes_link c.args.text.now c.args.tmp.now)) _ _ _ _ _ (t c.args.host.now) c.make_above.ensures.fault_has_cause.later made e.step e.fault_has_cause c.from_residual-in_err-symlink.ensures.1 (λ v w step. clash_step step)
    (λ u v tree q can. can_link tree q.0 q.1 can)

pub returns-clause-any_moment : goal.returns-clause-any_moment
returns-clause-any_moment g c = let t = g.met.H.Host.is_tree in linking (t c.args.host.now) c.make_above.ensures.frame (t c.make_above.new.host) c.symlink.ensures.step

pub returns-clause-on_success : goal.returns-clause-on_success
returns-clause-on_success g c =
    let t = g.met.H.Host.is_tree in
    ends_on (ends_call (t c.make_above.new.host) c.in_ok-symlink.ensures.step) (ends_frame (t c.args.host.now) c.make_above.ensures.frame) (t c.make_above.new.host) (λ u v w tree made step. linked made tree step)

pub returns-in_err-symlink-clause-unsynced : goal.returns-in_err-symlink-clause-unsynced
returns-in_err-symlink-clause-unsynced g c =
    let t = g.met.H.Host.is_tree in
    ends_on (ends_call (t c.make_above.new.host) c.symlink.ensures.step) c.make_above.ensures.unsynced (t c.make_above.new.host) (λ u v w tree q step. none_on q (step_none tt step))

pub returns-clause-unsynced : goal.returns-clause-unsynced
returns-clause-unsynced g c =
    let t = g.met.H.Host.is_tree in
    ends_on (ends_call (t c.make_above.new.host) c.symlink.ensures.step) c.make_above.ensures.unsynced (t c.make_above.new.host) (λ u v w tree q step. none_on q (step_none tt step))
