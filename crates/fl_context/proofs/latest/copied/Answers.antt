use Rattle.std.proofs.Common.{◌≡◌, ◌++◌, map, sym, ap, ◌∙◌, subst}
use Rattle.fl_context.specs.Grants.{IsAscending}
use Rattle.fl_context.specs.Latest.{mention_at, mentions_of}
use Rattle.fl_context.proofs.Merging.{append_nil, ascending_keys}
use Rattle.fl_context.proofs.latest.copied.Goals as goal

pub returns-clause-ascending : goal.returns-clause-ascending
returns-clause-ascending c =
    let layer = c.loop-permission.layer in
    let all : layer ≡ mentions_of c.args.latest.now = sym (append_nil layer) ∙ ap (λ es. layer ++ map mention_at es) (sym c.in-None.ensures.steps.0) ∙ c.loop-permission.invariant in
    subst IsAscending (sym all) (ascending_keys c.args.latest.now.entries c.iter-permission-items.ensures.ordered)
