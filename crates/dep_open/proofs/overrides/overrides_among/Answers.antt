use Rattle.std.proofs.Common.{◌∙◌, List, ℕ, arith, subst}
use Rattle.fp_host.specs.View.{IsTree}
use Rattle.fp_host.specs.Outcome.{shows}
use Rattle.fp_host.proofs.Looking.{looks_within}
use Rattle.fp_host.proofs.Ending.{ends_on, ends_looks, ends_both, ends_in_tree}
use Rattle.dep_open.specs.Parts.{AddsOverride}
use Rattle.dep_open.proofs.FindingOverrides.{layers_next, good_layers, are_overrides, whole_names}
use Rattle.dep_open.proofs.overrides.overrides_among.Goals as goal

pub returns-in_err-add_override-clause-unchanged : goal.returns-in_err-add_override-clause-unchanged
returns-in_err-add_override-clause-unchanged g c = looks_within c.add_override.ensures.unchanged c.loop-name.invariant.still (g.met.H.Host.is_tree c.loop-name.host)

pub loop-name-preserved : goal.loop-name-preserved
loop-name-preserved g c =
    let t = g.met.H.Host.is_tree in
    record {
      still = looks_within c.add_override.ensures.unchanged c.loop-name.invariant.still (t c.loop-name.host);
      good = c.in_ok-add_override.ensures.good c.loop-name.invariant.good;
      tells = ends_on c.in_ok-add_override.ensures.tells (ends_both (ends_looks (t c.args.host.now) c.loop-name.invariant.still) c.loop-name.invariant.tells) (t c.loop-name.host) (λ u v w tree q adds.
          layers_next (shows u) c.args.names.now c.loop-name.name-index c.name-item.result c.loop-name.rows.entries _ c.loop-name.damaged _ c.loop-name-test.true c.name-item.is q.1
          (subst (λ (k : List ℕ). AddsOverride (shows u) k c.loop-name.rows.entries c.loop-name.damaged c.add_override.new.rows.entries c.add_override.new.damaged) c.as_str.ensures
          (subst (λ x. AddsOverride (shows x) c.as_str.result.now c.loop-name.rows.entries c.loop-name.damaged c.add_override.new.rows.entries c.add_override.new.damaged) q.0.0 adds)));
      later = omega (arith, c.loop-name.invariant.later, c.add_override.ensures.fault_has_cause.later);
    }

pub returns-clause-good : goal.returns-clause-good
returns-clause-good g c = good_layers c.loop-name.rows.entries _ c.loop-name.invariant.good (c.from_vec.ensures ∙ c.in_ok-values_in_order.ensures.items) c.in_ok-values_in_order.ensures.ordered

pub returns-clause-tells : goal.returns-clause-tells
returns-clause-tells g c =
    let t = g.met.H.Host.is_tree in
    ends_in_tree (t c.loop-name.host) (ends_both (ends_looks (t c.args.host.now) c.loop-name.invariant.still) c.loop-name.invariant.tells) (λ u w tree q are.
    are_overrides c.args.names.now c.loop-name.rows.entries _ (subst IsTree q.0.0 tree)
    (whole_names (shows u) c.args.names.now c.loop-name.name-index c.loop-name.rows.entries c.loop-name.damaged c.loop-name-test.false q.1)
    (c.from_vec.ensures ∙ c.in_ok-values_in_order.ensures.items) are)
