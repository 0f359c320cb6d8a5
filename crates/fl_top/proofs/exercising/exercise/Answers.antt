use Rattle.std.proofs.Common.{◌≡◌, false, true, IsErrOf}
use Rattle.fl_gen.specs.Exercise.{exercise_changes}
use Rattle.fl_change.specs.Turns.{MayDo}
use Rattle.fl_top.specs.Exercising.{exercising}
use Rattle.fl_change.specs.declared.end.RunEnd.TheVariants as run
use Rattle.fl_top.proofs.Asked.{not_asked, asks_work}
use Rattle.fl_top.proofs.Refreshed.{goes_in_step, exports_in_step, stands_spared, caused_in_step, remote_passed}
use Rattle.fl_top.proofs.Opening.{goes_not_opened, caused_open, open_fault, open_remote}
use Rattle.fl_top.proofs.Refusing.{exercising_late}
use Rattle.fl_top.proofs.exercising.exercise.Goals as goal

-- ---- it wasn't opened

pub returns-in_err-opened-clause-any_moment : goal.returns-in_err-opened-clause-any_moment
returns-in_err-opened-clause-any_moment g c = goes_not_opened (g.R.Remotes.holds c.args.remotes.now) (MayDo (exercise_changes c.args.apps.now)) (exercising c.args.apps.now) c.in_err-opened.field-0.0 c.from_residual.result (exercising_late c.args.apps.now) (g.met.H.Host.is_tree c.args.host.now) c.open.ensures.frame c.open.ensures.unread c.in_err-opened.ensures.tells c.from_residual.ensures.1

pub returns-in_err-opened-clause-fault_has_cause : goal.returns-in_err-opened-clause-fault_has_cause
returns-in_err-opened-clause-fault_has_cause g c = caused_open c.open.ensures.fault_has_cause (λ is. open_fault c.open.result c.from_residual.result c.in_err-opened.field-0.0 c.in_err-opened.was c.from_residual.ensures.1 is.1)

pub returns-in_err-opened-clause-remotes : goal.returns-in_err-opened-clause-remotes
returns-in_err-opened-clause-remotes g c = not_asked (MayDo (exercise_changes c.args.apps.now)) (IsErrOf c.from_residual.result run.RemoteFault) (g.R.Remotes.holds c.args.remotes.now) (g.R.Remotes.faults c.args.remotes.now) (open_remote c.from_residual.result c.in_err-opened.field-0.0 c.from_residual.ensures.1)

-- ---- it was opened

pub returns-clause-any_moment : goal.returns-clause-any_moment
returns-clause-any_moment g c =
    let t = g.met.H.Host.is_tree in
    let step = c.bring_in_step.ensures in
    goes_in_step (MayDo (exercise_changes c.args.apps.now)) (exercising c.args.apps.now) c.in_ok-opened.opened c.bring_in_step.result false (exercising_late c.args.apps.now) (t c.args.host.now) (t c.open.new.host) (t c.make_exercise-changed.new.host) (t c.bring_in_step.new.host) c.open.ensures.frame c.open.ensures.unread c.in_ok-opened.ensures.tells
    c.make_exercise-changed.result c.make_exercise-changed.new.acted c.make_exercise-changed.ensures.acts (λ no. c.make_exercise-changed.ensures.settles) step.any_moment step.in_step step.passes

pub returns-clause-exports : goal.returns-clause-exports
returns-clause-exports g c =
    let t = g.met.H.Host.is_tree in
    let step = c.bring_in_step.ensures in
    stands_spared (g.H.Host.moments c.args.host.now) (g.H.Host.moments c.bring_in_step.new.host) (g.R.Remotes.holds c.args.remotes.now) (MayDo (exercise_changes c.args.apps.now)) (false ≡ true) ⊥ c.bring_in_step.result (λ is. cc is)
    (exports_in_step (MayDo (exercise_changes c.args.apps.now)) (exercising c.args.apps.now) c.in_ok-opened.opened c.bring_in_step.result false (exercising_late c.args.apps.now) (t c.args.host.now) (t c.open.new.host) (t c.make_exercise-changed.new.host) (t c.bring_in_step.new.host) c.open.ensures.frame c.open.ensures.unread c.in_ok-opened.ensures.tells
    c.make_exercise-changed.result c.make_exercise-changed.new.acted c.make_exercise-changed.ensures.acts (λ no. c.make_exercise-changed.ensures.settles) step.any_moment step.in_step step.passes)

pub returns-clause-fault_has_cause : goal.returns-clause-fault_has_cause
returns-clause-fault_has_cause g c =
    let step = c.bring_in_step.ensures in
    caused_in_step (MayDo (exercise_changes c.args.apps.now)) (exercising c.args.apps.now) c.in_ok-opened.opened c.make_exercise-changed.result c.bring_in_step.result (g.H.Host.faults c.args.host.now) (g.H.Host.faults c.bring_in_step.new.host) c.open.ensures.fault_has_cause.later c.in_ok-opened.ensures.tells c.make_exercise-changed.ensures.acts step.passes step.fault_has_cause

pub returns-clause-remotes : goal.returns-clause-remotes
returns-clause-remotes g c = asks_work (IsErrOf c.bring_in_step.result run.RemoteFault) (λ is. remote_passed c.make_exercise-changed.result c.bring_in_step.result c.bring_in_step.ensures.passes is) c.make_exercise-changed.ensures.acts
