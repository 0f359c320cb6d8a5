use Rattle.std.proofs.Common.{[]}
use Rattle.fp_host.specs.Calls.{CanCreate}
use Rattle.fp_host.proofs.Cause.{clash_create}
use Rattle.fp_host.proofs.Ending.{ends_call, ends_on, ends_both, ends_frame, goes_last, call_caused}
use Rattle.ost_model.specs.declared.object.Object.TheVariants as objects
use Rattle.ost_store.specs.Stage.{CanStage}
use Rattle.ost_store.proofs.Staged.{making, creating, created, can_create}
use Rattle.fp_small.proofs.Unsynced.{on_one, none_one, create_one}
use Rattle.fp_host.proofs.Ending.{ends_to}
use Rattle.ost_store.proofs.staging.stage_file.Goals as goal

pub returns-in_err-make_above-clause-any_moment : goal.returns-in_err-make_above-clause-any_moment
returns-in_err-make_above-clause-any_moment g c = goes_last (making (objects.File c.args.mode []) (g.met.H.Host.is_tree c.args.host.now) c.make_above.ensures.frame)

pub returns-in_err-create-clause-any_moment : goal.returns-in_err-create-clause-any_moment
returns-in_err-create-clause-any_moment g c = let t = g.met.H.Host.is_tree in creating (t c.args.host.now) c.make_above.ensures.frame (t c.make_above.new.host) c.create.ensures.step

pub returns-in_err-create-clause-fault_has_cause : goal.returns-in_err-create-clause-fault_has_cause
returns-in_err-create-clause-fault_has_cause g c =
    let t = g.met.H.Host.is_tree in
    let e = c.in_err-create.ensures in
    let made = ends_both (ends_frame (t c.args.host.now) c.make_above.ensures.frame) c.in_ok-make_above.ensures.on_success in
    call_caused (CanStage c.args.tmp.now (objects.File c.args.mode [])) (CanCreate c.args.tmp.now c.args.mode) _ _ _ _ _ (t c.args.host.now) c.make_above.ensures.fault_has_cause.later made e.step e.fault_has_cause c.from_residual-in_err-create.ensures.1 (λ v w step. clash_create step)
    (λ u v tree q can. can_create tree q.0 q.1 can)

pub returns-clause-any_moment : goal.returns-clause-any_moment
returns-clause-any_moment g c = let t = g.met.H.Host.is_tree in creating (t c.args.host.now) c.make_above.ensures.frame (t c.make_above.new.host) c.create.ensures.step

pub returns-clause-on_success : goal.returns-clause-on_success
returns-clause-on_success g c =
    let t = g.met.H.Host.is_tree in
    ends_on (ends_call (t c.make_above.new.host) c.in_ok-create.ensures.step) (ends_frame (t c.args.host.now) c.make_above.ensures.frame) (t c.make_above.new.host) (λ u v w tree made step. created made tree step)

pub returns-in_err-make_above-clause-unsynced : goal.returns-in_err-make_above-clause-unsynced
returns-in_err-make_above-clause-unsynced g c =
    let t = g.met.H.Host.is_tree in
    ends_to c.make_above.ensures.unsynced (λ u w q. none_one q)

pub returns-in_err-create-clause-unsynced : goal.returns-in_err-create-clause-unsynced
returns-in_err-create-clause-unsynced g c =
    let t = g.met.H.Host.is_tree in
    ends_on (ends_call (t c.make_above.new.host) c.create.ensures.step) c.make_above.ensures.unsynced (t c.make_above.new.host) (λ u v w tree q step. on_one q (create_one step))

pub returns-clause-unsynced : goal.returns-clause-unsynced
returns-clause-unsynced g c =
    let t = g.met.H.Host.is_tree in
    ends_on (ends_call (t c.make_above.new.host) c.create.ensures.step) c.make_above.ensures.unsynced (t c.make_above.new.host) (λ u v w tree q step. on_one q (create_one step))
