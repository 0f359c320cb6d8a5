use Rattle.std.proofs.Common.{refl}
use Rattle.fl_change.proofs.Saying.{goes_err, goes_ok}
use Rattle.fl_top.proofs.running.say.Goals as goal

pub returns-in_err-say-clause-any_moment : goal.returns-in_err-say-clause-any_moment
returns-in_err-say-clause-any_moment g c =
    goes_err c.args.text.now c.args.text.now c.in_err-say.field-0.0 c.from_residual.result (g.met.H.Host.is_tree c.args.host.now) refl c.in_err-say.ensures.step c.from_residual.ensures.0 c.from_residual.ensures.1

pub returns-clause-any_moment : goal.returns-clause-any_moment
returns-clause-any_moment g c = goes_ok c.args.text.now c.args.text.now (g.met.H.Host.is_tree c.args.host.now) refl c.in_ok-say.ensures.step
