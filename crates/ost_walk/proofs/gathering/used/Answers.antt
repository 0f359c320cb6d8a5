use Rattle.std.proofs.Common.{sym, ◌∙◌, subst}
use Rattle.fp_host.specs.Paths.{Elements}
use Rattle.ost_model.specs.Remotes.{Stores}
use Rattle.ost_walk.proofs.Kept.{used_list}
use Rattle.ost_walk.proofs.gathering.used.Goals as goal

pub returns-in-Ok-in_order-clause-tells : goal.returns-in-Ok-in_order-clause-tells
returns-in-Ok-in_order-clause-tells g c have s =
    used_list have c.args.commits.now c.in-Ok.found.entries c.from_vec.result
    (c.in-Ok.ensures.tells have (subst (λ (r : Elements). Stores r (g.H.Host.moments c.args.host.now) have) (sym c.in_ok-places.ensures.0) s))
    (c.from_vec.ensures ∙ c.in-Ok-in_order.ensures.objects) c.in-Ok-in_order.ensures.ordered

pub returns-clause-tells : goal.returns-clause-tells
returns-clause-tells g c have s = c.in-Err.ensures.tells have (subst (λ (r : Elements). Stores r (g.H.Host.moments c.args.host.now) have) (sym c.in_ok-places.ensures.0) s)
