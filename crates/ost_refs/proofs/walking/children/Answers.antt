use Rattle.std.proofs.Common.{◌∙◌, ap, subst, arith, List, ℕ, ◌∷◌, ◌++◌, map}
use Rattle.fp_host.proofs.Looking.{looks_within}
use Rattle.fp_host.proofs.Ending.{ends_on, ends_looks, ends_both}
use Rattle.fp_small.specs.Naming.{ListsIn}
use Rattle.ost_refs.proofs.Levels.{next_below}
use Rattle.ost_refs.proofs.walking.children.Goals as goal

pub returns-in_err-names-clause-unchanged : goal.returns-in_err-names-clause-unchanged
returns-in_err-names-clause-unchanged g c = looks_within c.names_in.ensures.unchanged c.loop-folder.invariant.still (g.met.H.Host.is_tree c.loop-folder.host)

pub returns-in_err-add_names-clause-unchanged : goal.returns-in_err-add_names-clause-unchanged
returns-in_err-add_names-clause-unchanged g c = looks_within c.names_in.ensures.unchanged c.loop-folder.invariant.still (g.met.H.Host.is_tree c.loop-folder.host)

pub loop-folder-preserved : goal.loop-folder-preserved
loop-folder-preserved g c =
    let t = g.met.H.Host.is_tree in
    record {
      still = looks_within c.names_in.ensures.unchanged c.loop-folder.invariant.still (t c.loop-folder.host);
      tells = ends_on c.in_ok-names.ensures.tells (ends_both (ends_looks (t c.args.host.now) c.loop-folder.invariant.still) c.loop-folder.invariant.tells) (t c.loop-folder.host) (λ u v w tree q lists.
          next_below c.args.folders.now c.loop-folder.folder-index c.folder-item.result c.in_ok-names.names c.loop-folder.paths.items _ c.loop-folder-test.true c.folder-item.is (subst (λ x. ListsIn c.folder-item.result x c.in_ok-names.names) q.0.0 lists)
          (c.in_ok-add_names.ensures ∙ ap (λ (l : List (List ℕ)). c.loop-folder.paths.items ++ map (λ x. x ∷ c.folder-item.result) l) c.as_slice.ensures) q.1);
      later = omega (arith, c.loop-folder.invariant.later, c.names_in.ensures.fault_has_cause.later);
    }
