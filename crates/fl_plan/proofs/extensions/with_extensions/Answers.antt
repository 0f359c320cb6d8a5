use Rattle.std.proofs.Common.{◌∙◌}
use Rattle.fl_plan.proofs.Parts.{extensions_by}
use Rattle.fl_plan.proofs.extensions.with_extensions.Goals as goal

pub returns-clause-plans : goal.returns-clause-plans
returns-clause-plans g c = extensions_by c.args.state.now c.args.owner.now c.args.plan c.as_slice.result.now (c.as_slice.ensures ∙ c.in_ok-points.ensures) c.with_points.ensures.plans
