use Rattle.std.proofs.Common.{rules}
use Rattle.fl_lines.specs.Lines.{refusal_text}
use Rattle.fl_change.proofs.Saying.{goes_err, goes_ok}
use Rattle.fl_top.proofs.running.say_refusal.Goals as goal

pub returns-in_err-say-clause-any_moment : goal.returns-in_err-say-clause-any_moment
returns-in_err-say-clause-any_moment g c =
    goes_err (refusal_text c.args.refusal) _ c.in_err-say.field-0.0 c.from_residual-in_err-say.result (g.met.H.Host.is_tree c.args.host.now) (search rules) c.in_err-say.ensures.step c.from_residual-in_err-say.ensures.0 c.from_residual-in_err-say.ensures.1

pub returns-clause-any_moment : goal.returns-clause-any_moment
returns-clause-any_moment g c = goes_ok (refusal_text c.args.refusal) _ (g.met.H.Host.is_tree c.args.host.now) (search rules) c.in_ok-say.ensures.step
