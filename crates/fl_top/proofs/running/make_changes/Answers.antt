use Rattle.std.proofs.Common.{IsErrOf}
use Rattle.fl_change.specs.Current.{updates_all}
use Rattle.fl_change.specs.Turns.{changing, MayDo}
use Rattle.fl_change.specs.declared.end.RunEnd.TheVariants as run
use Rattle.fl_top.proofs.Asked.{not_asked, asks_work}
use Rattle.fl_top.proofs.Refreshed.{goes_in_step, exports_in_step, caused_in_step, remote_passed}
use Rattle.fl_top.proofs.Opening.{goes_not_opened, caused_open, open_fault, open_remote}
use Rattle.fl_top.proofs.Refusing.{changing_late}
use Rattle.fl_top.proofs.running.make_changes.Goals as goal

-- ---- it wasn't opened

pub returns-in_err-opened-clause-any_moment : goal.returns-in_err-opened-clause-any_moment
returns-in_err-opened-clause-any_moment g c = goes_not_opened (g.R.Remotes.holds c.args.remotes.now) (MayDo c.args.changes.now) (changing c.args.changes.now) c.in_err-opened.field-0.0 c.from_residual.result (changing_late c.args.changes.now) (g.met.H.Host.is_tree c.args.host.now) c.open.ensures.frame c.open.ensures.unread c.in_err-opened.ensures.tells c.from_residual.ensures.1

pub returns-in_err-opened-clause-fault_has_cause : goal.returns-in_err-opened-clause-fault_has_cause
returns-in_err-opened-clause-fault_has_cause g c = caused_open c.open.ensures.fault_has_cause (λ is. open_fault c.open.result c.from_residual.result c.in_err-opened.field-0.0 c.in_err-opened.was c.from_residual.ensures.1 is.1)

pub returns-in_err-opened-clause-remotes : goal.returns-in_err-opened-clause-remotes
returns-in_err-opened-clause-remotes g c = not_asked (MayDo c.args.changes.now) (IsErrOf c.from_residual.result run.RemoteFault) (g.R.Remotes.holds c.args.remotes.now) (g.R.Remotes.faults c.args.remotes.now) (open_remote c.from_residual.result c.in_err-opened.field-0.0 c.from_residual.ensures.1)

-- ---- it was opened

pub returns-clause-any_moment : goal.returns-clause-any_moment
returns-clause-any_moment g c =
    let t = g.met.H.Host.is_tree in
    let step = c.bring_in_step.ensures in
    goes_in_step (MayDo c.args.changes.now) (changing c.args.changes.now) c.in_ok-opened.opened c.bring_in_step.result (updates_all c.args.changes.now) (changing_late c.args.changes.now) (t c.args.host.now) (t c.open.new.host) (t c.change_all-changed.new.host) (t c.bring_in_step.new.host) c.open.ensures.frame c.open.ensures.unread c.in_ok-opened.ensures.tells
    c.change_all-changed.result c.change_all-changed.new.acted c.change_all-changed.ensures.acts c.change_all-changed.ensures.settles step.any_moment step.in_step step.passes

pub returns-clause-exports : goal.returns-clause-exports
returns-clause-exports g c =
    let t = g.met.H.Host.is_tree in
    let step = c.bring_in_step.ensures in
    exports_in_step (MayDo c.args.changes.now) (changing c.args.changes.now) c.in_ok-opened.opened c.bring_in_step.result (updates_all c.args.changes.now) (changing_late c.args.changes.now) (t c.args.host.now) (t c.open.new.host) (t c.change_all-changed.new.host) (t c.bring_in_step.new.host) c.open.ensures.frame c.open.ensures.unread c.in_ok-opened.ensures.tells
    c.change_all-changed.result c.change_all-changed.new.acted c.change_all-changed.ensures.acts c.change_all-changed.ensures.settles step.any_moment step.in_step step.passes

pub returns-clause-fault_has_cause : goal.returns-clause-fault_has_cause
returns-clause-fault_has_cause g c =
    let step = c.bring_in_step.ensures in
    caused_in_step (MayDo c.args.changes.now) (changing c.args.changes.now) c.in_ok-opened.opened c.change_all-changed.result c.bring_in_step.result (g.H.Host.faults c.args.host.now) (g.H.Host.faults c.bring_in_step.new.host) c.open.ensures.fault_has_cause.later c.in_ok-opened.ensures.tells c.change_all-changed.ensures.acts step.passes step.fault_has_cause

pub returns-clause-remotes : goal.returns-clause-remotes
returns-clause-remotes g c = asks_work (IsErrOf c.bring_in_step.result run.RemoteFault) (λ is. remote_passed c.change_all-changed.result c.bring_in_step.result c.bring_in_step.ensures.passes is) c.change_all-changed.ensures.acts
