use Rattle.std.proofs.Common.{◌∷◌, ◌∙◌, ap, subst, codes}
use Rattle.fp_host.specs.Paths.{Elements}
use Rattle.fp_host.proofs.Looking.{looks_within}
use Rattle.fp_host.proofs.Ending.{ends_on, ends_looks, ends_both}
use Rattle.ost_refs.specs.Walks.{AreLevel}
use Rattle.ost_refs.proofs.Found.{both_paths}
use Rattle.ost_refs.proofs.listing.paths_of.Goals as goal

pub returns-in_err-more-clause-unchanged : goal.returns-in_err-more-clause-unchanged
returns-in_err-more-clause-unchanged g c = looks_within c.paths_below-2.ensures.unchanged c.paths_below.ensures.unchanged (g.met.H.Host.is_tree c.paths_below.new.host)

pub returns-in_err-append-clause-unchanged : goal.returns-in_err-append-clause-unchanged
returns-in_err-append-clause-unchanged g c = looks_within c.paths_below-2.ensures.unchanged c.paths_below.ensures.unchanged (g.met.H.Host.is_tree c.paths_below.new.host)

pub returns-clause-unchanged : goal.returns-clause-unchanged
returns-clause-unchanged g c = looks_within c.paths_below-2.ensures.unchanged c.paths_below.ensures.unchanged (g.met.H.Host.is_tree c.paths_below.new.host)

pub returns-clause-tells : goal.returns-clause-tells
returns-clause-tells g c =
    let t = g.met.H.Host.is_tree in
    ends_on c.in_ok-more.ensures.tells (ends_both (ends_looks (t c.args.host.now) c.paths_below.ensures.unchanged) c.in_ok-paths.ensures.tells) (t c.paths_below.new.host) (λ u v w tree q five.
    both_paths c.args.root.now c.in_ok-heads.heads c.in_ok-remotes.remotes c.in_ok-paths.paths.items c.in_ok-more.more.items c.append.new.self.items
    (c.in_ok-heads.ensures ∙ ap (λ (l : Elements). codes "heads" ∷ l) c.in_ok-refs.ensures) (c.in_ok-remotes.ensures ∙ ap (λ (l : Elements). codes "remotes" ∷ l) c.in_ok-refs.ensures) c.in_ok-append.ensures.items
    q.1 (subst (λ x. AreLevel 5 c.in_ok-remotes.remotes x c.in_ok-more.more.items) q.0.0 five))
