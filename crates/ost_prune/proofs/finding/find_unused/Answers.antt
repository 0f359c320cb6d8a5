use Rattle.std.proofs.Common.{subst}
use Rattle.std.specs.HashSet.{contains_text}
use Rattle.fp_host.specs.View.{View}
use Rattle.fp_host.proofs.Cause.{same_fault}
use Rattle.fp_host.proofs.Ending.{ends_both, ends_looks, ends_on, ends_to, fault_caused}
use Rattle.fp_host.proofs.Looking.{looks_within}
use Rattle.ost_prune.specs.Prune.{ListsUnused}
use Rattle.ost_prune.specs.Texts.{AreUsedTexts}
use Rattle.ost_prune.proofs.Found.{of_found}
use Rattle.ost_prune.proofs.finding.find_unused.Goals as goal

pub returns-in_err-unused-clause-unchanged : goal.returns-in_err-unused-clause-unchanged
returns-in_err-unused-clause-unchanged g c = looks_within c.pick_all.ensures.unchanged c.used_texts.ensures.unchanged (g.met.H.Host.is_tree c.used_texts.new.host)

pub returns-in_err-unused-clause-fault_has_cause : goal.returns-in_err-unused-clause-fault_has_cause
returns-in_err-unused-clause-fault_has_cause g c =
    let t = g.met.H.Host.is_tree in
    fault_caused (λ v. Unit {0}) (λ v. Unit {0}) _ _ _ _ _ (t c.args.host.now) c.used_texts.ensures.fault_has_cause.later (ends_looks (t c.args.host.now) c.used_texts.ensures.unchanged) c.pick_all.ensures.fault_has_cause
    (same_fault _ _ _ c.in_err-unused.was c.from_residual-in_err-unused.ensures.1) (λ u v tree q can. tt)

pub returns-clause-unchanged : goal.returns-clause-unchanged
returns-clause-unchanged g c = looks_within c.pick_all.ensures.unchanged c.used_texts.ensures.unchanged (g.met.H.Host.is_tree c.used_texts.new.host)

pub returns-clause-tells : goal.returns-clause-tells
returns-clause-tells g c =
    let t = g.met.H.Host.is_tree in
    let root = c.args.root.now in
    let keep = c.args.keep.now in
    let texts = ends_to c.in_ok-used.ensures.tells (λ u w told. of_found c.in-Some.is root keep u (λ t. AreUsedTexts root keep u (contains_text t)) told) in
    ends_on (c.in_ok-unused.ensures.tells keep) (ends_both (ends_looks (t c.args.host.now) c.used_texts.ensures.unchanged) texts) (t c.used_texts.new.host) (λ u v w tree q found.
    subst (λ (z : View). AreUsedTexts root keep z (contains_text c.in-Some.used) → ListsUnused root keep z c.in_ok-unused.unused.items) q.0.0 found q.1)
