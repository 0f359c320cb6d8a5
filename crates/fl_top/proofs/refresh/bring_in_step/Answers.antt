use Rattle.std.proofs.Common.{◌∙◌, inl, inr, Result, Ok, Err, IsErrOf, refl, sym, ap, subst}
use Rattle.fp_host.specs.Causes.{IsCaused}
use Rattle.fp_host.specs.Frame.{AtEnd}
use Rattle.fp_host.specs.Moments.{Always}
use Rattle.fp_host.specs.declared.host.HostEnd.TheVariants as host
use Rattle.fp_host.proofs.Goes.{stays}
use Rattle.fp_small.specs.declared.state.State.{State}
use Rattle.dep_states.specs.Sound.{Opens}
use Rattle.fl_export.specs.Steps.{Refreshes, WasRefreshed}
use Rattle.fl_change.specs.declared.end.RunEnd.{RunEnd}
use Rattle.fl_change.specs.declared.end.RunEnd.TheVariants as run
use Rattle.fl_top.specs.Exports.{StepsAfter, InStepAfter, StandsAfter, PassesOn}
use Rattle.fl_top.proofs.InStep.{caused_as, caused_by_none, host_ended, not_given, host_fault}
use Rattle.fl_top.proofs.refresh.bring_in_step.Goals as goal

-- ---- the changes were made

pub returns-in_err-refresh-in-Ok-clause-passes : goal.returns-in_err-refresh-in-Ok-clause-passes
returns-in_err-refresh-in-Ok-clause-passes g c = subst (λ (x : Result State RunEnd). PassesOn x c.from_residual.result) (sym c.in-Ok.is) (inr (host_ended c.from_residual.result c.in_err-refresh-in-Ok.field-0.0 c.from_residual.ensures.1))

pub returns-in_err-refresh-in-Ok-clause-any_moment : goal.returns-in_err-refresh-in-Ok-clause-any_moment
returns-in_err-refresh-in-Ok-clause-any_moment g c =
    let steps = subst (λ (s : State). Always (Refreshes s) (g.H.Host.moments c.args.host.now) (g.H.Host.moments c.refresh.new.host)) c.state.ensures c.refresh.ensures.any_moment in
    subst (λ (x : Result State RunEnd). Always (StepsAfter x c.args.acted) (g.H.Host.moments c.args.host.now) (g.H.Host.moments c.refresh.new.host)) (sym c.in-Ok.is) steps

pub returns-in_err-refresh-in-Ok-clause-in_step : goal.returns-in_err-refresh-in-Ok-clause-in_step
returns-in_err-refresh-in-Ok-clause-in_step g c = λ given. absurd (not_given (host_ended c.from_residual.result c.in_err-refresh-in-Ok.field-0.0 c.from_residual.ensures.1) given)

pub returns-in_err-refresh-in-Ok-clause-fault_has_cause : goal.returns-in_err-refresh-in-Ok-clause-fault_has_cause
returns-in_err-refresh-in-Ok-clause-fault_has_cause g c =
    let cause = subst (λ (s : State). IsCaused (IsErrOf c.refresh.result host.Fault) (g.H.Host.moments c.args.host.now) (Opens s) (g.H.Host.faults c.args.host.now) (g.H.Host.faults c.refresh.new.host)) c.state.ensures c.refresh.ensures.fault_has_cause in
    caused_as cause (λ f. host_fault c.refresh.result c.from_residual.result c.in_err-refresh-in-Ok.field-0.0 c.in_err-refresh-in-Ok.was c.from_residual.ensures.1 f.1) (λ v stands. subst (λ (x : Result State RunEnd). StandsAfter x v) c.in-Ok.is stands)

pub returns-in_ok-refresh-in-Ok-clause-passes : goal.returns-in_ok-refresh-in-Ok-clause-passes
returns-in_ok-refresh-in-Ok-clause-passes g c = subst (λ (x : Result State RunEnd). PassesOn x (Ok tt)) (sym c.in-Ok.is) (inl refl)

pub returns-in_ok-refresh-in-Ok-clause-any_moment : goal.returns-in_ok-refresh-in-Ok-clause-any_moment
returns-in_ok-refresh-in-Ok-clause-any_moment g c =
    let steps = subst (λ (s : State). Always (Refreshes s) (g.H.Host.moments c.args.host.now) (g.H.Host.moments c.refresh.new.host)) c.state.ensures c.refresh.ensures.any_moment in
    subst (λ (x : Result State RunEnd). Always (StepsAfter x c.args.acted) (g.H.Host.moments c.args.host.now) (g.H.Host.moments c.refresh.new.host)) (sym c.in-Ok.is) steps

pub returns-in_ok-refresh-in-Ok-clause-in_step : goal.returns-in_ok-refresh-in-Ok-clause-in_step
returns-in_ok-refresh-in-Ok-clause-in_step g c = λ given.
    let end = subst (λ (s : State). AtEnd (WasRefreshed s) (g.H.Host.moments c.args.host.now) (g.H.Host.moments c.refresh.new.host)) c.state.ensures c.in_ok-refresh-in-Ok.ensures.on_success in
    subst (λ (x : Result State RunEnd). AtEnd (InStepAfter x c.args.acted) (g.H.Host.moments c.args.host.now) (g.H.Host.moments c.refresh.new.host)) (sym c.in-Ok.is) end

pub returns-in_ok-refresh-in-Ok-clause-fault_has_cause : goal.returns-in_ok-refresh-in-Ok-clause-fault_has_cause
returns-in_ok-refresh-in-Ok-clause-fault_has_cause g c =
    let cause = subst (λ (s : State). IsCaused (IsErrOf c.refresh.result host.Fault) (g.H.Host.moments c.args.host.now) (Opens s) (g.H.Host.faults c.args.host.now) (g.H.Host.faults c.refresh.new.host)) c.state.ensures c.refresh.ensures.fault_has_cause in
    caused_as cause (λ f. absurd (cc f.1)) (λ v stands. subst (λ (x : Result State RunEnd). StandsAfter x v) c.in-Ok.is stands)

-- ---- one was refused

pub returns-in_err-refresh_where-in-Err-Refused-clause-passes : goal.returns-in_err-refresh_where-in-Err-Refused-clause-passes
returns-in_err-refresh_where-in-Err-Refused-clause-passes g c = subst (λ (x : Result State RunEnd). PassesOn x c.from_residual-in_err-refresh_where-in-Err-Refused.result) (sym (c.in-Err-Refused.is ∙ ap (λ (e : RunEnd). Err e) c.in-Err-Refused.field-0-is)) (inr (host_ended c.from_residual-in_err-refresh_where-in-Err-Refused.result c.in_err-refresh_where-in-Err-Refused.field-0.0 c.from_residual-in_err-refresh_where-in-Err-Refused.ensures.1))

pub returns-in_err-refresh_where-in-Err-Refused-clause-any_moment : goal.returns-in_err-refresh_where-in-Err-Refused-clause-any_moment
returns-in_err-refresh_where-in-Err-Refused-clause-any_moment g c = subst (λ (x : Result State RunEnd). Always (StepsAfter x c.args.acted) (g.H.Host.moments c.args.host.now) (g.H.Host.moments c.refresh_where.new.host)) (sym (c.in-Err-Refused.is ∙ ap (λ (e : RunEnd). Err e) c.in-Err-Refused.field-0-is)) c.refresh_where.ensures.any_moment

pub returns-in_err-refresh_where-in-Err-Refused-clause-in_step : goal.returns-in_err-refresh_where-in-Err-Refused-clause-in_step
returns-in_err-refresh_where-in-Err-Refused-clause-in_step g c = λ given. absurd (not_given (host_ended c.from_residual-in_err-refresh_where-in-Err-Refused.result c.in_err-refresh_where-in-Err-Refused.field-0.0 c.from_residual-in_err-refresh_where-in-Err-Refused.ensures.1) given)

pub returns-in_err-refresh_where-in-Err-Refused-clause-fault_has_cause : goal.returns-in_err-refresh_where-in-Err-Refused-clause-fault_has_cause
returns-in_err-refresh_where-in-Err-Refused-clause-fault_has_cause g c =
    caused_as c.refresh_where.ensures.fault_has_cause (λ f. host_fault c.refresh_where.result c.from_residual-in_err-refresh_where-in-Err-Refused.result c.in_err-refresh_where-in-Err-Refused.field-0.0 c.in_err-refresh_where-in-Err-Refused.was c.from_residual-in_err-refresh_where-in-Err-Refused.ensures.1 f.1)
    (λ v stands. subst (λ (x : Result State RunEnd). StandsAfter x v) (c.in-Err-Refused.is ∙ ap (λ (e : RunEnd). Err e) c.in-Err-Refused.field-0-is) stands)

pub returns-in_ok-refresh_where-in-Err-Refused-clause-passes : goal.returns-in_ok-refresh_where-in-Err-Refused-clause-passes
returns-in_ok-refresh_where-in-Err-Refused-clause-passes g c = subst (λ (x : Result State RunEnd). PassesOn x (Err (run.Refused c.in-Err-Refused.refusal))) (sym (c.in-Err-Refused.is ∙ ap (λ (e : RunEnd). Err e) c.in-Err-Refused.field-0-is)) (inl refl)

pub returns-in_ok-refresh_where-in-Err-Refused-clause-any_moment : goal.returns-in_ok-refresh_where-in-Err-Refused-clause-any_moment
returns-in_ok-refresh_where-in-Err-Refused-clause-any_moment g c = subst (λ (x : Result State RunEnd). Always (StepsAfter x c.args.acted) (g.H.Host.moments c.args.host.now) (g.H.Host.moments c.refresh_where.new.host)) (sym (c.in-Err-Refused.is ∙ ap (λ (e : RunEnd). Err e) c.in-Err-Refused.field-0-is)) c.refresh_where.ensures.any_moment

pub returns-in_ok-refresh_where-in-Err-Refused-clause-in_step : goal.returns-in_ok-refresh_where-in-Err-Refused-clause-in_step
returns-in_ok-refresh_where-in-Err-Refused-clause-in_step g c = λ given. subst (λ (x : Result State RunEnd). AtEnd (InStepAfter x c.args.acted) (g.H.Host.moments c.args.host.now) (g.H.Host.moments c.refresh_where.new.host)) (sym (c.in-Err-Refused.is ∙ ap (λ (e : RunEnd). Err e) c.in-Err-Refused.field-0-is)) c.in_ok-refresh_where-in-Err-Refused.ensures.on_success

pub returns-in_ok-refresh_where-in-Err-Refused-clause-fault_has_cause : goal.returns-in_ok-refresh_where-in-Err-Refused-clause-fault_has_cause
returns-in_ok-refresh_where-in-Err-Refused-clause-fault_has_cause g c = caused_as c.refresh_where.ensures.fault_has_cause (λ f. absurd (cc f.1)) (λ v stands. subst (λ (x : Result State RunEnd). StandsAfter x v) (c.in-Err-Refused.is ∙ ap (λ (e : RunEnd). Err e) c.in-Err-Refused.field-0-is) stands)

-- ---- they came to no end

pub returns-in-Err-Fault-clause-passes : goal.returns-in-Err-Fault-clause-passes
returns-in-Err-Fault-clause-passes g c = subst (λ (x : Result State RunEnd). PassesOn x (Err run.Fault)) (sym (c.in-Err-Fault.is ∙ ap (λ (e : RunEnd). Err e) c.in-Err-Fault.field-0-is)) refl

pub returns-in-Err-Fault-clause-any_moment : goal.returns-in-Err-Fault-clause-any_moment
returns-in-Err-Fault-clause-any_moment g c = subst (λ (x : Result State RunEnd). Always (StepsAfter x c.args.acted) (g.H.Host.moments c.args.host.now) (g.H.Host.moments c.args.host.now)) (sym (c.in-Err-Fault.is ∙ ap (λ (e : RunEnd). Err e) c.in-Err-Fault.field-0-is)) (stays (g.met.H.Host.is_tree c.args.host.now) (λ u. refl) (λ u tree. refl))

pub returns-in-Err-Fault-clause-in_step : goal.returns-in-Err-Fault-clause-in_step
returns-in-Err-Fault-clause-in_step g c = λ given. absurd given

pub returns-in-Err-Fault-clause-fault_has_cause : goal.returns-in-Err-Fault-clause-fault_has_cause
returns-in-Err-Fault-clause-fault_has_cause g c = caused_by_none (λ f. f.0 (c.in-Err-Fault.is ∙ ap (λ (e : RunEnd). Err e) c.in-Err-Fault.field-0-is))

pub returns-in-Err-RemoteFault-clause-passes : goal.returns-in-Err-RemoteFault-clause-passes
returns-in-Err-RemoteFault-clause-passes g c = subst (λ (x : Result State RunEnd). PassesOn x (Err run.RemoteFault)) (sym (c.in-Err-RemoteFault.is ∙ ap (λ (e : RunEnd). Err e) c.in-Err-RemoteFault.field-0-is)) refl

pub returns-in-Err-RemoteFault-clause-any_moment : goal.returns-in-Err-RemoteFault-clause-any_moment
returns-in-Err-RemoteFault-clause-any_moment g c = subst (λ (x : Result State RunEnd). Always (StepsAfter x c.args.acted) (g.H.Host.moments c.args.host.now) (g.H.Host.moments c.args.host.now)) (sym (c.in-Err-RemoteFault.is ∙ ap (λ (e : RunEnd). Err e) c.in-Err-RemoteFault.field-0-is)) (stays (g.met.H.Host.is_tree c.args.host.now) (λ u. refl) (λ u tree. refl))

pub returns-in-Err-RemoteFault-clause-in_step : goal.returns-in-Err-RemoteFault-clause-in_step
returns-in-Err-RemoteFault-clause-in_step g c = λ given. absurd given

pub returns-in-Err-RemoteFault-clause-fault_has_cause : goal.returns-in-Err-RemoteFault-clause-fault_has_cause
returns-in-Err-RemoteFault-clause-fault_has_cause g c = caused_by_none (λ f. cc f.1)

pub returns-in-Err-NoMemory-clause-passes : goal.returns-in-Err-NoMemory-clause-passes
returns-in-Err-NoMemory-clause-passes g c = subst (λ (x : Result State RunEnd). PassesOn x (Err run.NoMemory)) (sym (c.in-Err-NoMemory.is ∙ ap (λ (e : RunEnd). Err e) c.in-Err-NoMemory.field-0-is)) refl

pub returns-in-Err-NoMemory-clause-any_moment : goal.returns-in-Err-NoMemory-clause-any_moment
returns-in-Err-NoMemory-clause-any_moment g c = subst (λ (x : Result State RunEnd). Always (StepsAfter x c.args.acted) (g.H.Host.moments c.args.host.now) (g.H.Host.moments c.args.host.now)) (sym (c.in-Err-NoMemory.is ∙ ap (λ (e : RunEnd). Err e) c.in-Err-NoMemory.field-0-is)) (stays (g.met.H.Host.is_tree c.args.host.now) (λ u. refl) (λ u tree. refl))

pub returns-in-Err-NoMemory-clause-in_step : goal.returns-in-Err-NoMemory-clause-in_step
returns-in-Err-NoMemory-clause-in_step g c = λ given. absurd given

pub returns-in-Err-NoMemory-clause-fault_has_cause : goal.returns-in-Err-NoMemory-clause-fault_has_cause
returns-in-Err-NoMemory-clause-fault_has_cause g c = caused_by_none (λ f. cc f.1)
