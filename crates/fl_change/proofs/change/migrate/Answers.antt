use Rattle.std.proofs.Common.{sym, ap, ◌∙◌}
use Rattle.fp_small.specs.declared.state.State.{State}
use Rattle.fp_small.specs.declared.op.Op.TheVariants.{Migrate}
use Rattle.fl_change.specs.Refs.{op_over}
use Rattle.fl_change.specs.Turns.{by_layout, migrating}
use Rattle.fl_change.proofs.Acting.{acts_nothing, acts_same}
use Rattle.fl_change.proofs.change.migrate.Goals as goal

pub returns-in-Two-clause-acts : goal.returns-in-Two-clause-acts
returns-in-Two-clause-acts g c = acts_nothing migrating (g.met.H.Host.is_tree c.args.host.now) (λ x first held known rests. ap by_layout (ap (λ (s : State). s.layout) (sym c.state.ensures) ∙ c.in-Two.is))

pub returns-in-One-clause-acts : goal.returns-in-One-clause-acts
returns-in-One-clause-acts g c = acts_same migrating (op_over Migrate) (λ x first held known rests. ap by_layout (ap (λ (s : State). s.layout) (sym c.state.ensures) ∙ c.in-One.is)) c.do_op.ensures.acts
