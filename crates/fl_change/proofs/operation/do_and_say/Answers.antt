use Rattle.std.proofs.Common.{refl, subst, Ok, Err, Result}
use Rattle.fp_small.specs.declared.state.State.{State}
use Rattle.fp_host.specs.Causes.{end_of}
use Rattle.op_change.specs.Attempts.{Attempts}
use Rattle.op_change.specs.declared.ending.ApplyEnd.{ApplyEnd}
use Rattle.ost_walk.specs.Ends.{outside}
use Rattle.fl_change.specs.Ends.{end_of_apply, end_of_host}
use Rattle.fl_change.specs.Performs.{DoneOver}
use Rattle.fl_change.proofs.Working.{works_err}
use Rattle.fl_change.proofs.Composing.{Saying, works_not_applied, works_done, works_silent}
use Rattle.fl_change.proofs.operation.do_and_say.Goals as goal

pub returns-in_err-done-clause-works : goal.returns-in_err-done-clause-works
returns-in_err-done-clause-works g c =
    let op = c.args.op.now in
    let s = c.args.opened in
    let u = outside (g.H.Host.moments c.args.host.now) (g.H.Host.faults c.args.host.now) (g.R.Remotes.holds c.args.remotes.now) (g.R.Remotes.faults c.args.remotes.now) in
    let v = outside (g.H.Host.moments c.apply.new.host) (g.H.Host.faults c.apply.new.host) (g.R.Remotes.holds c.apply.new.remotes) (g.R.Remotes.faults c.apply.new.remotes) in
    works_err (λ r. DoneOver u.holdings op s r) c.from_residual.result (end_of_apply c.in_err-done.field-0.0) c.from_residual.ensures.1
    (works_not_applied op s u v c.in_err-done.field-0.0 (subst (λ (r : Result State ApplyEnd). Attempts s op r u v) c.in_err-done.was c.apply.ensures.attempts))

pub returns-in_err-say-clause-works : goal.returns-in_err-say-clause-works
returns-in_err-say-clause-works g c =
    let op = c.args.op.now in
    let s = c.args.opened in
    let u = outside (g.H.Host.moments c.args.host.now) (g.H.Host.faults c.args.host.now) (g.R.Remotes.holds c.args.remotes.now) (g.R.Remotes.faults c.args.remotes.now) in
    let v = outside (g.H.Host.moments c.apply.new.host) (g.H.Host.faults c.apply.new.host) (g.R.Remotes.holds c.apply.new.remotes) (g.R.Remotes.faults c.apply.new.remotes) in
    let t = g.met.H.Host.is_tree in
    let w = outside (g.H.Host.moments c.say.new.self) (g.H.Host.faults c.say.new.self) (g.R.Remotes.holds c.apply.new.remotes) (g.R.Remotes.faults c.apply.new.remotes) in
    let call : Saying c.args.line.now (Err c.in_err-say.field-0.0) v w = record { step = c.in_err-say.ensures.step; cause = c.in_err-say.ensures.fault_has_cause; holdings = refl; remote_faults = refl } in
    works_err (λ r. DoneOver u.holdings op s r) c.from_residual-in_err-say.result (end_of_host (end_of c.in_err-say.field-0.0)) c.from_residual-in_err-say.ensures.1
    (works_silent op s c.in_ok-done.done u v w c.args.line.now c.in_err-say.field-0.0 c.requires.may (t c.args.host.now) (t c.apply.new.host) c.requires.line (subst (λ (r : Result State ApplyEnd). Attempts s op r u v) c.in_ok-done.was c.apply.ensures.attempts) call)

pub returns-clause-works : goal.returns-clause-works
returns-clause-works g c =
    let op = c.args.op.now in
    let s = c.args.opened in
    let u = outside (g.H.Host.moments c.args.host.now) (g.H.Host.faults c.args.host.now) (g.R.Remotes.holds c.args.remotes.now) (g.R.Remotes.faults c.args.remotes.now) in
    let v = outside (g.H.Host.moments c.apply.new.host) (g.H.Host.faults c.apply.new.host) (g.R.Remotes.holds c.apply.new.remotes) (g.R.Remotes.faults c.apply.new.remotes) in
    let t = g.met.H.Host.is_tree in
    let w = outside (g.H.Host.moments c.say.new.self) (g.H.Host.faults c.say.new.self) (g.R.Remotes.holds c.apply.new.remotes) (g.R.Remotes.faults c.apply.new.remotes) in
    let call : Saying c.args.line.now (Ok tt) v w = record { step = c.in_ok-say.ensures.step; cause = c.in_ok-say.ensures.fault_has_cause; holdings = refl; remote_faults = refl } in
    works_done op s c.in_ok-done.done u v w c.args.line.now c.requires.may (t c.args.host.now) (t c.apply.new.host) c.requires.line (subst (λ (r : Result State ApplyEnd). Attempts s op r u v) c.in_ok-done.was c.apply.ensures.attempts) call
