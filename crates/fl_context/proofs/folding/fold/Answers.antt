use Rattle.std.proofs.Common.{ap, ◌∙◌}
use Rattle.fl_context.specs.Grants.{joined, value_in}
use Rattle.fl_context.proofs.Merging.{value_in-merged}
use Rattle.fl_context.proofs.folding.fold.Goals as goal

pub returns-clause-last : goal.returns-clause-last
returns-clause-last c = λ p. ap (λ g. value_in g p) (c.from_layer.ensures ∙ c.in_ok-merge.ensures.merged) ∙ value_in-merged (joined c.args.layers.now) p
