use Rattle.std.proofs.Common.{subst}
use Rattle.fp_host.proofs.Looking.{looks_within}
use Rattle.fp_host.proofs.Ending.{ends_on, ends_looks, ends_both}
use Rattle.ost_refs.specs.Walks.{AreLevel}
use Rattle.dep_states.proofs.BranchPaths.{both_branches}
use Rattle.dep_states.proofs.branches.branch_paths.Goals as goal

pub returns-in_err-more-clause-unchanged : goal.returns-in_err-more-clause-unchanged
returns-in_err-more-clause-unchanged g c = looks_within c.paths_below-2.ensures.unchanged c.paths_below.ensures.unchanged (g.met.H.Host.is_tree c.paths_below.new.host)

pub returns-in_err-append-clause-unchanged : goal.returns-in_err-append-clause-unchanged
returns-in_err-append-clause-unchanged g c = looks_within c.paths_below-2.ensures.unchanged c.paths_below.ensures.unchanged (g.met.H.Host.is_tree c.paths_below.new.host)

pub returns-clause-unchanged : goal.returns-clause-unchanged
returns-clause-unchanged g c = looks_within c.paths_below-2.ensures.unchanged c.paths_below.ensures.unchanged (g.met.H.Host.is_tree c.paths_below.new.host)

pub returns-clause-tells : goal.returns-clause-tells
returns-clause-tells g c =
    let t = g.met.H.Host.is_tree in
    ends_on c.in_ok-more.ensures.tells (ends_both (ends_looks (t c.args.host.now) c.paths_below.ensures.unchanged) c.in_ok-paths.ensures.tells) (t c.paths_below.new.host) (λ u v w tree q three.
    both_branches c.in_ok-apps.apps c.in_ok-runtimes.runtimes c.in_ok-paths.paths.items c.in_ok-more.more.items c.append.new.self.items
    c.in_ok-apps.ensures c.in_ok-runtimes.ensures c.in_ok-append.ensures.items
    q.1 (subst (λ x. AreLevel 3 c.in_ok-runtimes.runtimes x c.in_ok-more.more.items) q.0.0 three))
