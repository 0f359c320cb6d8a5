use Rattle.std.proofs.Common.{◌≡◌, ◌∙◌, ap, sym, subst, arith, IsErrOf}
use Rattle.fp_host.proofs.Cause.{passed_on, same_fault}
use Rattle.fp_host.proofs.Ending.{ends_start}
use Rattle.fp_host.specs.declared.host.HostEnd.TheVariants.{Fault}
use Rattle.fp_small.specs.Replace.{CanReplace}
use Rattle.fp_small.specs.declared.state.State.{State}
use Rattle.dep_states.specs.After.{state_after, plain, IsGood}
use Rattle.dep_states.specs.Shown.{settings_of}
use Rattle.dep_states.specs.Names.{config}
use Rattle.dep_states.specs.Sound.{Opens}
use Rattle.fp_small.proofs.ConfigTexts.{written_back}
use Rattle.op_change.proofs.Either.{IsNext, next_after, next_good, moments_applied, ends_applied, can_replace}
use Rattle.op_change.proofs.settings.change_settings.Goals as goal

pub write_state-requires : goal.write_state-requires
write_state-requires g c =
    let is : c.in_ok-state.state ≡ state_after c.args.opened (plain c.args.op.now) = c.in_ok-state.ensures ∙ ap (λ (s : State). state_after s (plain c.args.op.now)) c.take.ensures in
    (subst (IsNext c.args.opened) (sym is) (next_after c.args.opened c.args.op.now c.requires.may c.requires.here c.requires.good)).settings

pub returns-in_err-write_state-clause-any_moment : goal.returns-in_err-write_state-clause-any_moment
returns-in_err-write_state-clause-any_moment g c =
    let is : c.in_ok-state.state ≡ state_after c.args.opened (plain c.args.op.now) = c.in_ok-state.ensures ∙ ap (λ (s : State). state_after s (plain c.args.op.now)) c.take.ensures in
    let good = subst (IsNext c.args.opened) (sym is) (next_after c.args.opened c.args.op.now c.requires.may c.requires.here c.requires.good) in
    moments_applied c.args.op.now (g.met.H.Host.is_tree c.args.host.now) is good (written_back (settings_of c.in_ok-state.state) good.settings) c.write_state.ensures.any_moment

pub returns-in_err-write_state-clause-fault_has_cause : goal.returns-in_err-write_state-clause-fault_has_cause
returns-in_err-write_state-clause-fault_has_cause g c =
    let t = g.met.H.Host.is_tree c.args.host.now in
    passed_on _ (IsErrOf c.write_state.result Fault) (Opens c.args.opened) (CanReplace config) _ _ _ t (omega arith) (ends_start t) c.write_state.ensures.fault_has_cause
    (same_fault c.write_state.result _ c.in_err-write_state.field-0.0 c.in_err-write_state.was c.from_residual-in_err-write_state.ensures.1)
    (λ u v tree q opens. subst (CanReplace config) (sym q) (can_replace u tree opens))

pub returns-clause-any_moment : goal.returns-clause-any_moment
returns-clause-any_moment g c =
    let is : c.in_ok-state.state ≡ state_after c.args.opened (plain c.args.op.now) = c.in_ok-state.ensures ∙ ap (λ (s : State). state_after s (plain c.args.op.now)) c.take.ensures in
    let good = subst (IsNext c.args.opened) (sym is) (next_after c.args.opened c.args.op.now c.requires.may c.requires.here c.requires.good) in
    moments_applied c.args.op.now (g.met.H.Host.is_tree c.args.host.now) is good (written_back (settings_of c.in_ok-state.state) good.settings) c.write_state.ensures.any_moment

pub returns-clause-on_success : goal.returns-clause-on_success
returns-clause-on_success g c =
    let is : c.in_ok-state.state ≡ state_after c.args.opened (plain c.args.op.now) = c.in_ok-state.ensures ∙ ap (λ (s : State). state_after s (plain c.args.op.now)) c.take.ensures in
    let good = subst (IsNext c.args.opened) (sym is) (next_after c.args.opened c.args.op.now c.requires.may c.requires.here c.requires.good) in
    ends_applied c.args.op.now (g.met.H.Host.is_tree c.args.host.now) (g.met.H.Host.is_tree c.write_state.new.host) is good (written_back (settings_of c.in_ok-state.state) good.settings) c.write_state.ensures.any_moment c.in_ok-write_state.ensures.on_success

pub returns-clause-good : goal.returns-clause-good
returns-clause-good g c =
    let is : c.in_ok-state.state ≡ state_after c.args.opened (plain c.args.op.now) = c.in_ok-state.ensures ∙ ap (λ (s : State). state_after s (plain c.args.op.now)) c.take.ensures in
    subst IsGood (sym c.of.ensures) (next_good c.requires.good (subst (IsNext c.args.opened) (sym is) (next_after c.args.opened c.args.op.now c.requires.may c.requires.here c.requires.good)))
