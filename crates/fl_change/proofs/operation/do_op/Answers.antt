use Rattle.std.proofs.Common.{◌≡◌, refl, subst, Result, IfOk}
use Rattle.fp_host.specs.declared.host.HostEnd.{HostEnd}
use Rattle.fp_small.specs.declared.state.State.{State}
use Rattle.ost_walk.specs.Ends.{outside}
use Rattle.fl_change.specs.Ends.{end_of_host}
use Rattle.fl_change.specs.Performs.{WasTidiedAfter}
use Rattle.fl_change.specs.Refs.{op_over}
use Rattle.fl_change.specs.declared.end.RunEnd.TheVariants.{NoMemory}
use Rattle.fl_change.proofs.Acting.{acts_err, acts_halted}
use Rattle.fl_change.proofs.Composing.{Tidying, acts_not_done, acts_done, acts_untidied}
use Rattle.fl_change.proofs.Tidying.{tidying_of}
use Rattle.fl_change.proofs.operation.do_op.Goals as goal

pub returns-in_err-line-clause-acts : goal.returns-in_err-line-clause-acts
returns-in_err-line-clause-acts g c = acts_err c.from_residual.result NoMemory c.from_residual.ensures.1 (acts_halted (op_over c.args.op.now) (g.met.H.Host.is_tree c.args.host.now))

pub returns-in_err-done-clause-acts : goal.returns-in_err-done-clause-acts
returns-in_err-done-clause-acts g c = acts_err c.from_residual-in_err-done.result c.in_err-done.field-0.0 c.from_residual-in_err-done.ensures.1 (acts_not_done c.args.op.now c.args.opened c.in_err-done.field-0.0 c.in_err-done.ensures.works)

pub returns-in_err-tidied-clause-acts : goal.returns-in_err-tidied-clause-acts
returns-in_err-tidied-clause-acts g c =
    let op = c.args.op.now in
    let s = c.args.opened in
    let v = outside (g.H.Host.moments c.do_and_say.new.host) (g.H.Host.faults c.do_and_say.new.host) (g.R.Remotes.holds c.do_and_say.new.remotes) (g.R.Remotes.faults c.do_and_say.new.remotes) in
    let w = outside (g.H.Host.moments c.tidy_after.new.host) (g.H.Host.faults c.tidy_after.new.host) (g.R.Remotes.holds c.do_and_say.new.remotes) (g.R.Remotes.faults c.do_and_say.new.remotes) in
    let t = g.met.H.Host.is_tree in
    let tidying : Tidying (WasTidiedAfter op c.in_ok-done.done) c.in_ok-done.done c.tidy_after.result v w = tidying_of c.in_ok-done.done c.tidy_after.result c.tidy_after.ensures.any_moment c.tidy_after.ensures.on_success (λ x is. subst (λ (r : Result State HostEnd). IfOk r (λ o. o ≡ c.in_ok-done.done)) is c.tidy_after.ensures.state) c.tidy_after.ensures.fault_has_cause refl refl in
    acts_err c.from_residual-in_err-tidied.result (end_of_host c.in_err-tidied.field-0.0) c.from_residual-in_err-tidied.ensures.1
    (acts_untidied op s c.in_ok-done.done (outside (g.H.Host.moments c.args.host.now) (g.H.Host.faults c.args.host.now) (g.R.Remotes.holds c.args.remotes.now) (g.R.Remotes.faults c.args.remotes.now)) v w (t c.do_and_say.new.host) c.in_ok-done.ensures.works c.in_err-tidied.field-0.0 (subst (λ (r : Result State HostEnd). Tidying (WasTidiedAfter op c.in_ok-done.done) c.in_ok-done.done r v w) c.in_err-tidied.was tidying))

pub returns-clause-acts : goal.returns-clause-acts
returns-clause-acts g c =
    let op = c.args.op.now in
    let s = c.args.opened in
    let v = outside (g.H.Host.moments c.do_and_say.new.host) (g.H.Host.faults c.do_and_say.new.host) (g.R.Remotes.holds c.do_and_say.new.remotes) (g.R.Remotes.faults c.do_and_say.new.remotes) in
    let w = outside (g.H.Host.moments c.tidy_after.new.host) (g.H.Host.faults c.tidy_after.new.host) (g.R.Remotes.holds c.do_and_say.new.remotes) (g.R.Remotes.faults c.do_and_say.new.remotes) in
    let t = g.met.H.Host.is_tree in
    let tidying : Tidying (WasTidiedAfter op c.in_ok-done.done) c.in_ok-done.done c.tidy_after.result v w = tidying_of c.in_ok-done.done c.tidy_after.result c.tidy_after.ensures.any_moment c.tidy_after.ensures.on_success (λ x is. subst (λ (r : Result State HostEnd). IfOk r (λ o. o ≡ c.in_ok-done.done)) is c.tidy_after.ensures.state) c.tidy_after.ensures.fault_has_cause refl refl in
    acts_done op s c.in_ok-done.done (outside (g.H.Host.moments c.args.host.now) (g.H.Host.faults c.args.host.now) (g.R.Remotes.holds c.args.remotes.now) (g.R.Remotes.faults c.args.remotes.now)) v w (t c.do_and_say.new.host) c.in_ok-done.ensures.works c.in_ok-tidied.tidied (subst (λ (r : Result State HostEnd). Tidying (WasTidiedAfter op c.in_ok-done.done) c.in_ok-done.done r v w) c.in_ok-tidied.was tidying)
