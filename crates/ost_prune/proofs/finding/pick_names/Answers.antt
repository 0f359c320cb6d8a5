use Rattle.std.proofs.Common.{◌∷◌, List, ℕ, subst, arith}
use Rattle.std.specs.HashSet.{contains_text}
use Rattle.fp_host.specs.View.{View}
use Rattle.fp_host.proofs.Cause.{same_fault}
use Rattle.fp_host.proofs.Ending.{ends_on, ends_both, ends_looks, ends_start, ends_to, fault_caused}
use Rattle.fp_host.proofs.Looking.{looks_within, looks_start}
use Rattle.ost_prune.specs.Finding.{IsUnusedAt}
use Rattle.ost_prune.specs.Texts.{AreUsedTexts}
use Rattle.ost_prune.proofs.Found.{none_picked, next_name, all_picked}
use Rattle.ost_prune.proofs.finding.pick_names.Goals as goal

pub loop-name-init : goal.loop-name-init
loop-name-init g c =
    let t = g.met.H.Host.is_tree in
    record {
      still = looks_start (t c.args.host.now);
      later = omega arith;
      picks = λ keep. ends_to (ends_start (t c.args.host.now)) (λ u w same used. none_picked c.args.root.now keep _ u _);
    }

pub loop-name-preserved : goal.loop-name-preserved
loop-name-preserved g c =
    let t = g.met.H.Host.is_tree in
    let root = c.args.root.now in
    let folder = c.args.folder.now in
    let has = contains_text c.args.used.now in
    let x = c.name-item.result in
    let o = c.in_ok-object.object in
    record {
      still = looks_within c.unused_at.ensures.unchanged c.loop-name.invariant.still (t c.loop-name.host);
      later = omega (arith, c.loop-name.invariant.later, c.unused_at.ensures.fault_has_cause.later);
      picks = λ keep. ends_on (c.in_ok-object.ensures.tells keep) (ends_both (ends_looks (t c.args.host.now) c.loop-name.invariant.still) (c.loop-name.invariant.picks keep)) (t c.loop-name.host)
          (λ u v w tree q at used. next_name root keep folder c.args.names.now c.loop-name.name-index x u c.args.found.now.items c.loop-name.found.items c.loop-name-test.true c.name-item.is (q.1 used) o c.in_ok-add_found.ensures
          (subst (λ (y : List ℕ). IsUnusedAt root keep (y ∷ folder) u o) c.as_str.ensures
          (subst (λ (z : View). AreUsedTexts root keep z has → IsUnusedAt root keep (c.as_str.result.now ∷ folder) z o) q.0.0 at used)));
    }

pub returns-in_err-object-clause-unchanged : goal.returns-in_err-object-clause-unchanged
returns-in_err-object-clause-unchanged g c = looks_within c.unused_at.ensures.unchanged c.loop-name.invariant.still (g.met.H.Host.is_tree c.loop-name.host)

pub returns-in_err-object-clause-fault_has_cause : goal.returns-in_err-object-clause-fault_has_cause
returns-in_err-object-clause-fault_has_cause g c =
    let t = g.met.H.Host.is_tree in
    fault_caused (λ v. Unit {0}) (λ v. Unit {0}) _ _ _ _ _ (t c.args.host.now) c.loop-name.invariant.later (ends_looks (t c.args.host.now) c.loop-name.invariant.still) c.unused_at.ensures.fault_has_cause
    (same_fault _ _ _ c.in_err-object.was c.from_residual.ensures.1) (λ u v tree q can. tt)

pub returns-in_err-add_found-clause-unchanged : goal.returns-in_err-add_found-clause-unchanged
returns-in_err-add_found-clause-unchanged g c = looks_within c.unused_at.ensures.unchanged c.loop-name.invariant.still (g.met.H.Host.is_tree c.loop-name.host)

pub returns-clause-tells : goal.returns-clause-tells
returns-clause-tells g c keep = ends_to (c.loop-name.invariant.picks keep) (λ u w picks used.
    all_picked c.args.root.now keep c.args.folder.now c.args.names.now c.loop-name.name-index u c.args.found.now.items c.loop-name.found.items (omega (arith, c.loop-name-test.false, c.loop-name.auto.name-index-end)) (picks used))
