use Rattle.std.proofs.Common.{◌∙◌, subst, List}
use Rattle.fp_host.specs.Paths.{Elements}
use Rattle.fp_host.specs.View.{IsTree}
use Rattle.fp_host.proofs.Looking.{looks_within}
use Rattle.fp_host.proofs.Ending.{ends_on, ends_looks, ends_both}
use Rattle.ost_refs.specs.Found.{Finds}
use Rattle.ost_refs.proofs.Found.{lists}
use Rattle.ost_refs.proofs.Reached.{reached}
use Rattle.ost_refs.proofs.listing.list_refs.Goals as goal

pub returns-in_err-found-clause-unchanged : goal.returns-in_err-found-clause-unchanged
returns-in_err-found-clause-unchanged g c = looks_within c.places_among.ensures.unchanged c.paths_of.ensures.unchanged (g.met.H.Host.is_tree c.paths_of.new.host)

pub returns-in_err-values_in_order-clause-unchanged : goal.returns-in_err-values_in_order-clause-unchanged
returns-in_err-values_in_order-clause-unchanged g c = looks_within c.places_among.ensures.unchanged c.paths_of.ensures.unchanged (g.met.H.Host.is_tree c.paths_of.new.host)

pub returns-clause-unchanged : goal.returns-clause-unchanged
returns-clause-unchanged g c = looks_within c.places_among.ensures.unchanged c.paths_of.ensures.unchanged (g.met.H.Host.is_tree c.paths_of.new.host)

pub returns-clause-tells : goal.returns-clause-tells
returns-clause-tells g c =
    let t = g.met.H.Host.is_tree in
    ends_on c.in_ok-found.ensures.tells (ends_both (ends_looks (t c.args.host.now) c.paths_of.ensures.unchanged) c.in_ok-paths.ensures.tells) (t c.paths_of.new.host) (λ u v w tree q finds.
    lists c.args.root.now c.in_ok-paths.paths.items c.in_ok-found.found.entries c.from_vec.result
    (subst IsTree q.0.0 tree) q.1 (subst (λ x. Finds c.in_ok-paths.paths.items x c.in_ok-found.found.entries) q.0.0 (subst (λ (l : List Elements). Finds l v c.in_ok-found.found.entries) c.deref.ensures.value finds))
    (c.from_vec.ensures ∙ c.in_ok-values_in_order.ensures.items) c.in_ok-values_in_order.ensures.ordered)

pub returns-clause-reach : goal.returns-clause-reach
returns-clause-reach g c =
    let t = g.met.H.Host.is_tree in
    ends_on c.in_ok-found.ensures.tells (ends_both (ends_looks (t c.args.host.now) c.paths_of.ensures.unchanged) c.in_ok-paths.ensures.tells) (t c.paths_of.new.host) (λ u v w tree q finds.
    reached c.args.root.now c.from_vec.result (lists c.args.root.now c.in_ok-paths.paths.items c.in_ok-found.found.entries c.from_vec.result
    (subst IsTree q.0.0 tree) q.1 (subst (λ x. Finds c.in_ok-paths.paths.items x c.in_ok-found.found.entries) q.0.0 (subst (λ (l : List Elements). Finds l v c.in_ok-found.found.entries) c.deref.ensures.value finds))
    (c.from_vec.ensures ∙ c.in_ok-values_in_order.ensures.items) c.in_ok-values_in_order.ensures.ordered))
