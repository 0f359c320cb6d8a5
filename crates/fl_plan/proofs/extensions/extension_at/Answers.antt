use Rattle.std.proofs.Common.{sym, ◌∙◌}
use Rattle.fl_plan.specs.Extensions.{extension_at}
use Rattle.fl_plan.proofs.Steps.{asks_err}
use Rattle.fl_plan.proofs.Parts.{by_switch, by_candidates, point_done, point_asked, point_good}
use Rattle.fl_plan.proofs.extensions.extension_at.Goals as goal
use Rattle.fl_plan.proofs.extensions.extension_at.Goals.{then-not-point-via-then-not-point, then-not-point-via-else-not-point+then-is_filled}

pub returns-then-not-point-clause-plans : goal.returns-then-not-point-clause-plans
returns-then-not-point-clause-plans g c = point_done c.args.state.now c.args.remote.now c.args.plan.now c.args.point.now (g.met.H.Host.is_tree c.args.host.now) (elim c.then-not-point.branch [
  | then-not-point-via-then-not-point w ↦ by_switch c.args.state.now c.args.remote.now c.args.plan.now c.args.point.now w.if-not-point.true
  | then-not-point-via-else-not-point+then-is_filled w ↦ by_candidates c.args.state.now c.args.remote.now c.args.plan.now c.args.point.now w.if-not-point.false (sym w.is_filled.ensures ∙ w.if-is_filled.true)
])

pub returns-in-Ok-clause-plans : goal.returns-in-Ok-clause-plans
returns-in-Ok-clause-plans g c =
    point_asked c.args.state.now c.args.remote.now c.args.plan.now c.args.point.now c.in-Ok.offer (g.met.H.Host.is_tree c.args.host.now) (by_candidates c.args.state.now c.args.remote.now c.args.plan.now c.args.point.now c.if-not-point.false (sym c.is_filled.ensures ∙ c.if-is_filled.false)) (rw c.as_slice.ensures at c.in-Ok.ensures.asks) c.if_any.ensures.plans

pub returns-in-Ok-clause-good : goal.returns-in-Ok-clause-good
returns-in-Ok-clause-good g c = point_good c.args.state.now c.args.remote.now c.args.plan.now c.args.point.now c.in-Ok.offer c.if_any.result (sym c.is_filled.ensures ∙ c.if-is_filled.false) c.requires.remote (rw c.as_slice.ensures at c.in-Ok.ensures.good) c.if_any.ensures.same

pub returns-in-Err-clause-plans : goal.returns-in-Err-clause-plans
returns-in-Err-clause-plans g c =
    asks_err (λ held stored. extension_at held stored c.args.state.now c.args.remote.now c.args.plan.now c.args.point.now) c.in-Err.end (g.met.H.Host.is_tree c.args.host.now) (rw c.as_slice.ensures at c.in-Err.ensures.asks)
