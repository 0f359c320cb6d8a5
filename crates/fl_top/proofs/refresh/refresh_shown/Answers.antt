use Rattle.std.proofs.Common.{◌∙◌, OnOk, IsErrOf, Err, ap, subst}
use Rattle.fp_host.specs.Causes.{IsCaused}
use Rattle.fp_host.specs.Frame.{AtEnd}
use Rattle.fp_host.specs.Moments.{Always}
use Rattle.fp_host.specs.declared.host.HostEnd.TheVariants as host
use Rattle.fp_small.specs.declared.state.State.{State}
use Rattle.dep_states.specs.Sound.{Opens}
use Rattle.dep_open.specs.Open.{Opened}
use Rattle.dep_open.specs.declared.open_end.OpenEnd.{OpenEnd}
use Rattle.fl_export.specs.Steps.{Refreshes, WasRefreshed}
use Rattle.fl_top.proofs.InStep.{goes_no_further, goes_opened, ends_opened, ends_damaged, caused_opened, caused_opening}
use Rattle.fl_top.proofs.refresh.refresh_shown.Goals as goal

-- ---- it was opened

pub returns-in-Ok-clause-any_moment : goal.returns-in-Ok-clause-any_moment
returns-in-Ok-clause-any_moment g c =
    let t = g.met.H.Host.is_tree in
    let steps = subst (λ (s : State). Always (Refreshes s) (g.H.Host.moments c.open.new.host) (g.H.Host.moments c.refresh.new.host)) c.state.ensures c.refresh.ensures.any_moment in
    goes_opened (t c.args.host.now) c.open.ensures.frame (t c.open.new.host) c.in-Ok.ensures.tells steps

pub returns-in-Ok-clause-on_success : goal.returns-in-Ok-clause-on_success
returns-in-Ok-clause-on_success g c =
    let t = g.met.H.Host.is_tree in
    let steps = subst (λ (s : State). Always (Refreshes s) (g.H.Host.moments c.open.new.host) (g.H.Host.moments c.refresh.new.host)) c.state.ensures c.refresh.ensures.any_moment in
    let end = subst (λ (s : State). OnOk c.refresh.result (AtEnd (WasRefreshed s) (g.H.Host.moments c.open.new.host) (g.H.Host.moments c.refresh.new.host))) c.state.ensures c.refresh.ensures.on_success in
    ends_opened (t c.args.host.now) c.open.ensures.frame (t c.open.new.host) c.in-Ok.ensures.tells steps c.refresh.result end

pub returns-in-Ok-clause-fault_has_cause : goal.returns-in-Ok-clause-fault_has_cause
returns-in-Ok-clause-fault_has_cause g c =
    let cause = subst (λ (s : State). IsCaused (IsErrOf c.refresh.result host.Fault) (g.H.Host.moments c.open.new.host) (Opens s) (g.H.Host.faults c.open.new.host) (g.H.Host.faults c.refresh.new.host)) c.state.ensures c.refresh.ensures.fault_has_cause in
    caused_opened (g.H.Host.faults c.args.host.now) (g.H.Host.faults c.open.new.host) (g.H.Host.faults c.refresh.new.host) c.open.ensures.fault_has_cause.later c.in-Ok.ensures.tells cause

-- ---- it shows no state

pub returns-in-Err-Damaged-clause-any_moment : goal.returns-in-Err-Damaged-clause-any_moment
returns-in-Err-Damaged-clause-any_moment g c = goes_no_further (g.met.H.Host.is_tree c.args.host.now) c.open.ensures.frame

pub returns-in-Err-Damaged-clause-on_success : goal.returns-in-Err-Damaged-clause-on_success
returns-in-Err-Damaged-clause-on_success g c =
    ends_damaged (subst (λ (e : OpenEnd). AtEnd (Opened (Err e)) (g.H.Host.moments c.args.host.now) (g.H.Host.moments c.open.new.host)) c.in-Err-Damaged.field-0-is c.in-Err-Damaged.ensures.tells)

pub returns-in-Err-Damaged-clause-fault_has_cause : goal.returns-in-Err-Damaged-clause-fault_has_cause
returns-in-Err-Damaged-clause-fault_has_cause g c = caused_opening c.open.ensures.fault_has_cause (λ is. absurd (cc is))

-- ---- it wasn't opened

pub returns-in-Err-Fault-clause-any_moment : goal.returns-in-Err-Fault-clause-any_moment
returns-in-Err-Fault-clause-any_moment g c = goes_no_further (g.met.H.Host.is_tree c.args.host.now) c.open.ensures.frame

pub returns-in-Err-Fault-clause-fault_has_cause : goal.returns-in-Err-Fault-clause-fault_has_cause
returns-in-Err-Fault-clause-fault_has_cause g c = caused_opening c.open.ensures.fault_has_cause (λ is. c.in-Err-Fault.is ∙ ap (λ (e : OpenEnd). Err e) c.in-Err-Fault.field-0-is)

pub returns-clause-any_moment : goal.returns-clause-any_moment
returns-clause-any_moment g c = goes_no_further (g.met.H.Host.is_tree c.args.host.now) c.open.ensures.frame

pub returns-clause-fault_has_cause : goal.returns-clause-fault_has_cause
returns-clause-fault_has_cause g c = caused_opening c.open.ensures.fault_has_cause (λ is. absurd (cc is))
