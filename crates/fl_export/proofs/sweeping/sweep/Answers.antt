use Rattle.std.proofs.Common.{sym, subst}
use Rattle.std.proofs.lemmas.Result.{on_ok_weaker}
use Rattle.fp_host.specs.Paths.{Elements}
use Rattle.fp_host.proofs.Goes.{begins, stays}
use Rattle.fp_host.proofs.Ending.{ends_to}
use Rattle.fp_small.specs.Clear.{IsWithin, Reaches}
use Rattle.fl_export.specs.Steps.{Sweeps, HasNoStaleIn}
use Rattle.fl_export.proofs.Swept.{sweeps_none}
use Rattle.fl_export.proofs.sweeping.sweep.Goals as goal

pub returns-in_err-exports-clause-any_moment : goal.returns-in_err-exports-clause-any_moment
returns-in_err-exports-clause-any_moment g c = stays (g.met.H.Host.is_tree c.args.host.now) (λ u. sweeps_none) (λ u t. sweeps_none)

pub returns-clause-any_moment : goal.returns-clause-any_moment
returns-clause-any_moment g c = begins (g.met.H.Host.is_tree c.args.host.now) c.sweep_within.ensures.any_moment (λ u w t r. subst (λ (p : Elements). Sweeps (IsWithin p) c.args.places.now u w) c.in_ok-exports.ensures r) (λ u w t r q. subst (λ (p : Elements). Sweeps (IsWithin p) c.args.places.now u w) c.in_ok-exports.ensures q)

pub returns-clause-on_success : goal.returns-clause-on_success
returns-clause-on_success g c = on_ok_weaker c.sweep_within.result (λ done. ends_to done (λ u w q. subst (λ (p : Elements). HasNoStaleIn (IsWithin p) c.args.places.now w) c.in_ok-exports.ensures q)) c.sweep_within.ensures.on_success

pub returns-clause-reach : goal.returns-clause-reach
returns-clause-reach g c = on_ok_weaker c.sweep_within.result (λ done. ends_to done (λ u w q. subst (λ (p : Elements). Reaches p 127 u) c.in_ok-exports.ensures q)) c.sweep_within.ensures.reach

pub returns-clause-fault_has_cause : goal.returns-clause-fault_has_cause
returns-clause-fault_has_cause g c = record {
  later = c.sweep_within.ensures.fault_has_cause.later;
  fault = λ is m at can. c.sweep_within.ensures.fault_has_cause.fault is m at (subst (λ (p : Elements). Reaches p 127 m.now) (sym c.in_ok-exports.ensures) can);
}
