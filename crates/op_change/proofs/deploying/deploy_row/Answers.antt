use Rattle.std.proofs.Common.{◌∙◌, ap}
use Rattle.std.specs.Prelude.{IsErr}
use Rattle.std.specs.Result.{is_err}
use Rattle.fp_host.proofs.Cause.{passed_on}
use Rattle.fp_host.proofs.Goes.{begins}
use Rattle.dep_switch.specs.Staging.{CanStage, CanSwitch}
use Rattle.op_change.proofs.Deployed.{deploys_readies, can_now, deployed, deployed_end}
use Rattle.op_change.proofs.deploying.deploy_row.Goals as goal

pub returns-in_err-staged-clause-any_moment : goal.returns-in_err-staged-clause-any_moment
returns-in_err-staged-clause-any_moment g c = begins (g.met.H.Host.is_tree c.args.host.now) c.of.ensures.any_moment (λ u w t r. deploys_readies r) (λ u w t r e. deploys_readies e)

pub returns-in-Ok-clause-any_moment : goal.returns-in-Ok-clause-any_moment
returns-in-Ok-clause-any_moment g c =
    let t = g.met.H.Host.is_tree in
    deployed c.in_ok-staged.ensures.leads (t c.of.new.host) c.of.ensures.any_moment c.in_ok-staged.ensures.on_success c.switch.ensures.any_moment (t c.args.host.now)

pub returns-in-Ok-clause-on_success : goal.returns-in-Ok-clause-on_success
returns-in-Ok-clause-on_success g c = deployed_end c.in_ok-staged.ensures.leads (g.met.H.Host.is_tree c.of.new.host) c.in_ok-staged.ensures.on_success c.in-Ok.ensures.on_success

pub returns-in-Ok-clause-state : goal.returns-in-Ok-clause-state
returns-in-Ok-clause-state g c = c.settled.ensures ∙ c.in-Ok.ensures.state ∙ c.in_ok-staged.ensures.leads.state

pub returns-in-Err-clause-any_moment : goal.returns-in-Err-clause-any_moment
returns-in-Err-clause-any_moment g c =
    let t = g.met.H.Host.is_tree in
    deployed c.in_ok-staged.ensures.leads (t c.of.new.host) c.of.ensures.any_moment c.in_ok-staged.ensures.on_success c.switch.ensures.any_moment (t c.args.host.now)

pub returns-in-Err-clause-fault_has_cause : goal.returns-in-Err-clause-fault_has_cause
returns-in-Err-clause-fault_has_cause g c =
    let t = g.met.H.Host.is_tree in
    passed_on _ (IsErr c.switch.result) (CanStage c.args.opened c.args.row) (CanSwitch c.in_ok-staged.staged) _ _ _ (t c.args.host.now) c.of.ensures.fault_has_cause.later c.in_ok-staged.ensures.on_success c.switch.ensures.fault_has_cause (λ is. ap is_err c.in-Err.is)
    (λ u v tree q can. can_now c.in_ok-staged.ensures.leads q can)
