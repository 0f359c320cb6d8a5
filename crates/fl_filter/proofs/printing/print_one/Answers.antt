use Rattle.std.proofs.Common.{rules}
use Rattle.fl_filter.specs.Filtered.{out_text}
use Rattle.fl_filter.proofs.Speaking.{not_said, was_said}
use Rattle.fl_filter.proofs.printing.print_one.Goals as goal

pub returns-in_err-say-clause-any_moment : goal.returns-in_err-say-clause-any_moment
returns-in_err-say-clause-any_moment g c =
    not_said (out_text c.args.out.now) _ c.in_err-say.field-0.0 c.from_residual-in_err-say.result (g.met.H.Host.is_tree c.args.host.now) (search rules) c.in_err-say.ensures.step c.from_residual-in_err-say.ensures.0 c.from_residual-in_err-say.ensures.1

pub returns-clause-any_moment : goal.returns-clause-any_moment
returns-clause-any_moment g c = was_said (out_text c.args.out.now) _ (g.met.H.Host.is_tree c.args.host.now) (search rules) c.in_ok-say.ensures.step
