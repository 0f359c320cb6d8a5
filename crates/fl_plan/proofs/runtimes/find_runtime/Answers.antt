use Rattle.std.proofs.Common.{◌≡◌, Some, sym, ◌∙◌}
use Rattle.fl_plan.specs.Runtimes.{runtime_for}
use Rattle.fl_plan.specs.declared.offer.Chosen.{Chosen}
use Rattle.fl_plan.proofs.Steps.{asks_err}
use Rattle.fl_plan.proofs.Parts.{runtime_none, runtime_asked, runtime_good, runtime_some}
use Rattle.fl_plan.proofs.runtimes.find_runtime.Goals as goal

pub returns-then-has_ref-clause-plans : goal.returns-then-has_ref-clause-plans
returns-then-has_ref-clause-plans g c = runtime_none c.args.state.now c.args.own.now c.args.runtime.now (g.met.H.Host.is_tree c.args.host.now) (sym c.has_ref.ensures ∙ c.if-has_ref.true)

pub returns-in-Ok-clause-plans : goal.returns-in-Ok-clause-plans
returns-in-Ok-clause-plans g c =
    runtime_asked c.args.state.now c.args.own.now c.args.runtime.now c.in-Ok.offer (g.met.H.Host.is_tree c.args.host.now) (sym c.has_ref.ensures ∙ c.if-has_ref.false) c.in-Ok.ensures.asks c.if_offered.ensures.plans

pub returns-in-Ok-clause-good : goal.returns-in-Ok-clause-good
returns-in-Ok-clause-good g c = runtime_good c.args.state.now c.args.own.now c.args.runtime.now c.in-Ok.offer c.if_offered.result (sym c.has_ref.ensures ∙ c.if-has_ref.false) c.in-Ok.ensures.good c.if_offered.ensures.some

pub returns-in-Ok-clause-installed : goal.returns-in-Ok-clause-installed
returns-in-Ok-clause-installed g c =
    runtime_some c.args.state.now c.args.own.now c.args.runtime.now c.if_offered.result (λ (chosen : Chosen). Some chosen.offer ≡ c.in-Ok.offer) (sym c.has_ref.ensures ∙ c.if-has_ref.false) c.if_offered.ensures.some

pub returns-in-Err-clause-plans : goal.returns-in-Err-clause-plans
returns-in-Err-clause-plans g c =
    asks_err (λ held stored. runtime_for held stored c.args.state.now c.args.own.now c.args.runtime.now) c.in-Err.end (g.met.H.Host.is_tree c.args.host.now) c.in-Err.ensures.asks
