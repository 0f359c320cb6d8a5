use Rattle.std.proofs.Common.{◌∙◌, List, ℕ, subst}
use Rattle.std.specs.HashSet.{contains_text}
use Rattle.fp_host.specs.Paths.{Elements}
use Rattle.fp_host.specs.View.{View, IsTree}
use Rattle.fp_host.proofs.Ending.{ends_on, ends_both, ends_looks, to_tree, fault_caused}
use Rattle.fp_host.proofs.Looking.{looks_within}
use Rattle.fp_base.proofs.Options.{if_ok_to}
use Rattle.fp_small.specs.Naming.{ListsIn}
use Rattle.ost_prune.specs.Finding.{PicksUnused}
use Rattle.ost_prune.specs.Texts.{AreUsedTexts}
use Rattle.ost_prune.proofs.Picked.{all_folders}
use Rattle.ost_prune.proofs.finding.pick_all.Goals as goal

pub returns-clause-unchanged : goal.returns-clause-unchanged
returns-clause-unchanged g c = looks_within c.pick_folders.ensures.unchanged c.names_within.ensures.unchanged (g.met.H.Host.is_tree c.names_within.new.host)

pub returns-clause-tells : goal.returns-clause-tells
returns-clause-tells g c keep =
    let t = g.met.H.Host.is_tree in
    let root = c.args.root.now in
    let names = c.in_ok-names.names in
    let known = ends_both (ends_looks (t c.args.host.now) c.names_within.ensures.unchanged) (to_tree (t c.names_within.new.host) c.in_ok-names.ensures.tells) in
    if_ok_to c.pick_folders.result (λ found picked. ends_on picked known (t c.names_within.new.host) (λ u v w tree q picks used.
    all_folders root keep u names found.items (subst IsTree q.0.0 tree) c.in_ok-names.ensures.names (subst (λ (p : Elements). ListsIn p u names) c.in_ok-objects.ensures q.1.1)
    (subst (λ (l : List (List ℕ)). PicksUnused root keep l u found.items) c.as_slice.ensures
    (subst (λ (z : View). AreUsedTexts root keep z (contains_text c.args.used.now) → PicksUnused root keep c.as_slice.result.now z found.items) q.0.0 picks used)))) (c.pick_folders.ensures.tells keep)

pub returns-clause-fault_has_cause : goal.returns-clause-fault_has_cause
returns-clause-fault_has_cause g c =
    let t = g.met.H.Host.is_tree in
    fault_caused (λ v. Unit {0}) (λ v. Unit {0}) _ _ _ c.pick_folders.result c.pick_folders.result (t c.args.host.now) c.names_within.ensures.fault_has_cause.later (ends_looks (t c.args.host.now) c.names_within.ensures.unchanged) c.pick_folders.ensures.fault_has_cause (λ fault. fault) (λ u v tree q can. tt)
