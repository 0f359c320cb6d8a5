use Rattle.std.proofs.Common.{◌∙◌, arith, subst}
use Rattle.fp_host.specs.View.{IsTree}
use Rattle.fp_host.specs.Outcome.{shows}
use Rattle.fp_host.proofs.Looking.{looks_within}
use Rattle.fp_host.proofs.Ending.{ends_on, ends_looks, ends_both, ends_in_tree}
use Rattle.dep_open.specs.Parts.{AddsRef}
use Rattle.dep_open.proofs.FindingRefs.{finds_next, good_rows, are_refs, whole_list}
use Rattle.dep_open.proofs.refs.refs_among.Goals as goal

pub returns-in_err-add_ref-clause-unchanged : goal.returns-in_err-add_ref-clause-unchanged
returns-in_err-add_ref-clause-unchanged g c = looks_within c.add_ref.ensures.unchanged c.loop-path.invariant.still (g.met.H.Host.is_tree c.loop-path.host)

pub loop-path-preserved : goal.loop-path-preserved
loop-path-preserved g c =
    let t = g.met.H.Host.is_tree in
    record {
      still = looks_within c.add_ref.ensures.unchanged c.loop-path.invariant.still (t c.loop-path.host);
      good = c.in_ok-add_ref.ensures.good c.loop-path.invariant.good;
      tells = ends_on c.in_ok-add_ref.ensures.tells (ends_both (ends_looks (t c.args.host.now) c.loop-path.invariant.still) c.loop-path.invariant.tells) (t c.loop-path.host) (λ u v w tree q adds.
          finds_next (shows u) c.args.paths.now c.loop-path.path-index c.path-item.result c.loop-path.rows.entries _ c.loop-path.damaged _ c.loop-path-test.true c.path-item.is q.1
          (subst (λ x. AddsRef (shows x) c.path-item.result c.loop-path.rows.entries c.loop-path.damaged c.add_ref.new.rows.entries c.add_ref.new.damaged) q.0.0 adds));
      later = omega (arith, c.loop-path.invariant.later, c.add_ref.ensures.fault_has_cause.later);
    }

pub returns-clause-good : goal.returns-clause-good
returns-clause-good g c = good_rows c.loop-path.rows.entries _ c.loop-path.invariant.good (c.from_vec.ensures ∙ c.in_ok-values_in_order.ensures.items) c.in_ok-values_in_order.ensures.ordered

pub returns-clause-tells : goal.returns-clause-tells
returns-clause-tells g c =
    let t = g.met.H.Host.is_tree in
    ends_in_tree (t c.loop-path.host) (ends_both (ends_looks (t c.args.host.now) c.loop-path.invariant.still) c.loop-path.invariant.tells) (λ u w tree q are.
    are_refs c.args.paths.now c.loop-path.rows.entries _ (subst IsTree q.0.0 tree)
    (whole_list (shows u) c.args.paths.now c.loop-path.path-index c.loop-path.rows.entries c.loop-path.damaged c.loop-path-test.false q.1)
    (c.from_vec.ensures ∙ c.in_ok-values_in_order.ensures.items) are)
