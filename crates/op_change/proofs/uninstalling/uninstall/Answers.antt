use Rattle.std.proofs.Common.{◌∙◌, ap, sym, subst, arith}
use Rattle.std.specs.Prelude.{IsErr}
use Rattle.std.specs.Result.{is_err}
use Rattle.fp_host.proofs.Cause.{passed_on}
use Rattle.fp_host.proofs.Ending.{ends_start}
use Rattle.fp_host.proofs.Goes.{stays}
use Rattle.dep_states.specs.Sound.{Opens}
use Rattle.dep_switch.specs.Retiring.{CanRetire}
use Rattle.dep_switch.specs.Rows.{without_row}
use Rattle.op_change.proofs.Leaving.{left_goes, left_end, can_leave}
use Rattle.op_change.proofs.Objects.{does_start}
use Rattle.op_change.proofs.uninstalling.uninstall.Goals as goal

pub returns-in_err-plan-clause-any_moment : goal.returns-in_err-plan-clause-any_moment
returns-in_err-plan-clause-any_moment g c = stays (g.met.H.Host.is_tree c.args.host.now) (λ u. does_start) (λ u t. does_start)

pub returns-in-Ok-clause-any_moment : goal.returns-in-Ok-clause-any_moment
returns-in-Ok-clause-any_moment g c = left_goes c.in_ok-plan.ensures (g.met.H.Host.is_tree c.args.host.now) c.retire.ensures.any_moment

pub returns-in-Ok-clause-on_success : goal.returns-in-Ok-clause-on_success
returns-in-Ok-clause-on_success g c =
    let t = g.met.H.Host.is_tree in
    left_end c.in_ok-plan.ensures (t c.args.host.now) (t c.retire.new.host) c.retire.ensures.any_moment c.in-Ok.ensures.on_success

pub returns-in-Ok-clause-state : goal.returns-in-Ok-clause-state
returns-in-Ok-clause-state g c = c.settled.ensures ∙ c.in-Ok.ensures.state ∙ ap (without_row c.args.opened) c.in_ok-plan.ensures.name

pub returns-in-Err-clause-any_moment : goal.returns-in-Err-clause-any_moment
returns-in-Err-clause-any_moment g c = left_goes c.in_ok-plan.ensures (g.met.H.Host.is_tree c.args.host.now) c.retire.ensures.any_moment

pub returns-in-Err-clause-fault_has_cause : goal.returns-in-Err-clause-fault_has_cause
returns-in-Err-clause-fault_has_cause g c =
    let t = g.met.H.Host.is_tree in
    passed_on _ (IsErr c.retire.result) (Opens c.args.opened) (CanRetire c.args.opened c.in_ok-plan.plan) _ _ _ (t c.args.host.now) (omega arith) (ends_start (t c.args.host.now)) c.retire.ensures.fault_has_cause (λ is. ap is_err c.in-Err.is)
    (λ u v tree same opens. can_leave c.in_ok-plan.ensures c.requires.there (subst (Opens c.args.opened) (sym same) opens))
