use Rattle.std.proofs.Common.{sym, ◌∙◌}
use Rattle.fl_plan.proofs.Parts.{at_none, at_on, at_err}
use Rattle.fl_plan.proofs.planning.planned_at.Goals as goal

pub returns-then-is_at-clause-plans : goal.returns-then-is_at-clause-plans
returns-then-is_at-clause-plans g c = rw c.new.ensures (at_none c.args.state.now c.args.offer (g.met.H.Host.is_tree c.args.host.now) (sym c.is_at.ensures ∙ c.if-is_at.true))

pub returns-in-Ok-clause-plans : goal.returns-in-Ok-clause-plans
returns-in-Ok-clause-plans g c =
    at_on c.args.state.now c.args.offer c.in-Ok.target (sym c.is_at.ensures ∙ c.if-is_at.false) (g.met.H.Host.is_tree c.target_of.new.host) c.in-Ok.ensures.plans c.planned.ensures.plans

pub returns-in-Err-clause-plans : goal.returns-in-Err-clause-plans
returns-in-Err-clause-plans g c = at_err c.args.state.now c.args.offer c.in-Err.end (sym c.is_at.ensures ∙ c.if-is_at.false) c.in-Err.ensures.plans
