use Rattle.std.proofs.Common.{rules, ◌≡◌, ℕ, List, arith, sym, subst}
use Rattle.fp_host.specs.Outcome.{shows}
use Rattle.fp_host.specs.Frame.{AtEnd}
use Rattle.fp_host.proofs.Ending.{ends_looks}
use Rattle.fp_host.proofs.Looking.{looks_within}
use Rattle.fl_top.specs.Fsck.{IsReportText}
use Rattle.fl_top.proofs.Checked.{goes_unread, goes_not_checked, goes_not_told, goes_told, open_caused, list_caused, said_caused}
use Rattle.fl_top.proofs.checking.check.Goals as goal

pub returns-in_err-state-clause-any_moment : goal.returns-in_err-state-clause-any_moment
returns-in_err-state-clause-any_moment g c = goes_unread c.in_err-state.field-0.0 c.from_residual.result (g.met.H.Host.is_tree c.args.host.now) c.read_state.ensures.unchanged c.in_err-state.ensures.tells c.from_residual.ensures.1

pub returns-in_err-state-clause-fault_has_cause : goal.returns-in_err-state-clause-fault_has_cause
returns-in_err-state-clause-fault_has_cause g c = open_caused _ _ c.read_state.result c.in_err-state.field-0.0 c.from_residual.result c.in_err-state.was c.from_residual.ensures.1 c.read_state.ensures.fault_has_cause

pub returns-in_err-text-clause-any_moment : goal.returns-in_err-text-clause-any_moment
returns-in_err-text-clause-any_moment g c =
    let t = g.met.H.Host.is_tree in
    goes_not_checked c.in_ok-state.state c.in_err-text.field-0.0 c.from_residual-in_err-text.result (t c.args.host.now) (t c.read_state.new.host) c.read_state.ensures.unchanged c.in_ok-state.ensures.tells c.checked_text.ensures.unchanged c.from_residual-in_err-text.ensures.1

pub returns-in_err-text-clause-fault_has_cause : goal.returns-in_err-text-clause-fault_has_cause
returns-in_err-text-clause-fault_has_cause g c =
    list_caused c.in_ok-state.state _ _ _ c.checked_text.result c.in_err-text.field-0.0 c.from_residual-in_err-text.result (g.met.H.Host.is_tree c.args.host.now) c.read_state.ensures.fault_has_cause.later c.read_state.ensures.unchanged c.in_ok-state.ensures.tells c.in_err-text.was c.from_residual-in_err-text.ensures.1 c.checked_text.ensures.fault_has_cause

pub returns-in_err-say-clause-any_moment : goal.returns-in_err-say-clause-any_moment
returns-in_err-say-clause-any_moment g c =
    let t = g.met.H.Host.is_tree in
    let said : c.as_bytes.result.now ≡ c.in_ok-text.text = search rules in
    goes_not_told c.in_ok-state.state _ c.in_err-say.field-0.0 c.from_residual-in_err-say.result (t c.args.host.now) (t c.read_state.new.host) (t c.checked_text.new.host) c.read_state.ensures.unchanged c.in_ok-state.ensures.tells c.checked_text.ensures.unchanged
    (subst (λ (l : List ℕ). AtEnd (λ u w. IsReportText (shows u) l) (g.H.Host.moments c.read_state.new.host) (g.H.Host.moments c.checked_text.new.host)) (sym said) c.in_ok-text.ensures.tells) c.in_err-say.ensures.step c.from_residual-in_err-say.ensures.1

pub returns-in_err-say-clause-fault_has_cause : goal.returns-in_err-say-clause-fault_has_cause
returns-in_err-say-clause-fault_has_cause g c =
    let t = g.met.H.Host.is_tree in
    let looked = looks_within c.checked_text.ensures.unchanged c.read_state.ensures.unchanged (t c.read_state.new.host) in
    said_caused _ _ _ _ c.in_err-say.field-0.0 c.from_residual-in_err-say.result (t c.args.host.now) (omega (arith, c.read_state.ensures.fault_has_cause.later, c.checked_text.ensures.fault_has_cause.later)) (ends_looks (t c.args.host.now) looked) c.in_err-say.ensures.step c.in_err-say.ensures.fault_has_cause c.from_residual-in_err-say.ensures.1

pub returns-clause-any_moment : goal.returns-clause-any_moment
returns-clause-any_moment g c =
    let t = g.met.H.Host.is_tree in
    let said : c.as_bytes.result.now ≡ c.in_ok-text.text = search rules in
    goes_told c.in_ok-state.state _ (t c.args.host.now) (t c.read_state.new.host) (t c.checked_text.new.host) c.read_state.ensures.unchanged c.in_ok-state.ensures.tells c.checked_text.ensures.unchanged
    (subst (λ (l : List ℕ). AtEnd (λ u w. IsReportText (shows u) l) (g.H.Host.moments c.read_state.new.host) (g.H.Host.moments c.checked_text.new.host)) (sym said) c.in_ok-text.ensures.tells) c.in_ok-say.ensures.step
