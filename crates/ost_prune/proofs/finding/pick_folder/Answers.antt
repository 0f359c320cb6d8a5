use Rattle.std.proofs.Common.{◌∷◌, ◌∙◌, List, ℕ, map, refl, sym, ap, subst}
use Rattle.std.proofs.lemmas.Result.{on_ok_weaker}
use Rattle.std.specs.HashSet.{contains_text}
use Rattle.fp_host.specs.Paths.{Elements}
use Rattle.fp_host.specs.Reads.{AreNames}
use Rattle.fp_host.specs.View.{View, IsTree}
use Rattle.fp_host.proofs.Cause.{same_fault}
use Rattle.fp_host.proofs.Ending.{ends_on, ends_both, ends_looks, ends_start, ends_to, to_tree, fault_caused}
use Rattle.fp_host.proofs.Looking.{looks_within, looks_start}
use Rattle.fp_small.specs.Naming.{ListsIn}
use Rattle.ost_model.specs.Stores.{objects_folder}
use Rattle.ost_prune.specs.Finding.{PicksNames}
use Rattle.ost_prune.specs.Texts.{AreUsedTexts}
use Rattle.ost_prune.proofs.Picked.{other_folder, this_folder}
use Rattle.ost_prune.proofs.finding.pick_folder.Goals as goal

pub returns-then-not-is_prefix-clause-tells : goal.returns-then-not-is_prefix-clause-tells
returns-then-not-is_prefix-clause-tells g c keep =
    ends_to (ends_start (g.met.H.Host.is_tree c.args.host.now)) (λ u w same used.
    other_folder c.args.root.now keep u c.args.name.now c.args.found.now.items c.args.found.now.items (sym c.is_prefix.ensures ∙ c.if-not-is_prefix.true) refl)

pub returns-clause-unchanged : goal.returns-clause-unchanged
returns-clause-unchanged g c = looks_within c.pick_names.ensures.unchanged c.names_within.ensures.unchanged (g.met.H.Host.is_tree c.names_within.new.host)

pub returns-clause-tells : goal.returns-clause-tells
returns-clause-tells g c keep =
    let t = g.met.H.Host.is_tree in
    let root = c.args.root.now in
    let xx = c.args.name.now in
    let names = c.in_ok-names.names in
    let found = c.args.found.now.items in
    let found' = c.pick_names.new.found.items in
    let folder = c.in_ok-folder.ensures ∙ ap (λ (p : Elements). xx ∷ p) c.requires.folder in
    let known = ends_both (ends_looks (t c.args.host.now) c.names_within.ensures.unchanged) (to_tree (t c.names_within.new.host) c.in_ok-names.ensures.tells) in
    on_ok_weaker c.pick_names.result (λ picked. ends_on picked known (t c.names_within.new.host) (λ u v w tree q picks used.
    this_folder root keep u xx found found' names c.in_ok-names.ensures.names (subst (λ (p : Elements). ListsIn p u names) folder q.1.1) (sym c.is_prefix.ensures ∙ c.if-not-is_prefix.false)
    (subst (λ (p : Elements). PicksNames root keep (map (λ x. x ∷ p) names) u found found') folder
    (subst (λ (l : List (List ℕ)). PicksNames root keep (map (λ x. x ∷ c.in_ok-folder.folder) l) u found found') c.as_slice.ensures
    (subst (λ (z : View). AreUsedTexts root keep z (contains_text c.args.used.now) → PicksNames root keep (map (λ x. x ∷ c.in_ok-folder.folder) c.as_slice.result.now) z found found') q.0.0 picks used)))
    (subst IsTree q.0.0 tree))) (c.pick_names.ensures.tells keep)

pub returns-clause-fault_has_cause : goal.returns-clause-fault_has_cause
returns-clause-fault_has_cause g c =
    let t = g.met.H.Host.is_tree in
    fault_caused (λ v. Unit {0}) (λ v. Unit {0}) _ _ _ c.pick_names.result c.pick_names.result (t c.args.host.now) c.names_within.ensures.fault_has_cause.later (ends_looks (t c.args.host.now) c.names_within.ensures.unchanged) c.pick_names.ensures.fault_has_cause (λ fault. fault) (λ u v tree q can. tt)
