use Rattle.std.proofs.Common.{sym, subst}
use Rattle.fp_host.specs.Frame.{AtEnd}
use Rattle.fp_host.specs.Moments.{Always}
use Rattle.fp_host.specs.Outcome.{shows}
use Rattle.fp_host.proofs.Cause.{same_fault}
use Rattle.fp_small.specs.declared.state.State.{State}
use Rattle.dep_states.specs.Sound.{Opens}
use Rattle.dep_states.specs.Settled.{Settled}
use Rattle.dep_tidy.specs.Tidy.{Tidies, SettledButRef}
use Rattle.dep_tidy.proofs.tidying.tidy_added.Goals as goal

pub returns-in_err-settle_added-clause-any_moment : goal.returns-in_err-settle_added-clause-any_moment
returns-in_err-settle_added-clause-any_moment g c = subst (λ (x : State). Always (Tidies x) (g.H.Host.moments c.args.host.now) (g.H.Host.moments c.settle_added.new.host)) c.state.ensures c.settle_added.ensures.any_moment

pub returns-in_err-settle_added-clause-fault_has_cause : goal.returns-in_err-settle_added-clause-fault_has_cause
returns-in_err-settle_added-clause-fault_has_cause g c = record {
  later = c.settle_added.ensures.fault_has_cause.later;
  fault = λ is m at opens. c.settle_added.ensures.fault_has_cause.fault (same_fault _ _ _ c.in_err-settle_added.was c.from_residual.ensures.1 is) m at (subst (λ (x : State). Opens x m.now) (sym c.state.ensures) opens);
}

pub returns-clause-any_moment : goal.returns-clause-any_moment
returns-clause-any_moment g c = subst (λ (x : State). Always (Tidies x) (g.H.Host.moments c.args.host.now) (g.H.Host.moments c.settle_added.new.host)) c.state.ensures c.settle_added.ensures.any_moment

pub returns-clause-on_success : goal.returns-clause-on_success
returns-clause-on_success g c = subst (λ (x : State). AtEnd (λ u w. Opens x u → SettledButRef c.args.name.now (shows u) → Settled (shows w)) (g.H.Host.moments c.args.host.now) (g.H.Host.moments c.settle_added.new.host)) c.state.ensures c.in_ok-settle_added.ensures.on_success
