use Rattle.std.proofs.Common.{List, [], length, subst, sym, ap, arith}
use Rattle.std.proofs.lemmas.List.{length_push}
use Rattle.fp_host.specs.View.{View}
use Rattle.fp_host.proofs.Cause.{same_fault}
use Rattle.fp_host.proofs.Ending.{ends_on, ends_both, ends_looks, ends_start, ends_to, fault_caused}
use Rattle.fp_host.proofs.Looking.{looks_within, looks_start}
use Rattle.ost_fsck.specs.declared.row.Row.{Row}
use Rattle.ost_fsck.specs.Batches.{IsRow, AreRows}
use Rattle.ost_fsck.proofs.Batched.{more_rows, all_rows}
use Rattle.ost_fsck.proofs.batch.read_all.Goals as goal

pub loop-path-init : goal.loop-path-init
loop-path-init g c =
    let t = g.met.H.Host.is_tree in
    record {
      still = looks_start (t c.args.host.now);
      later = omega arith;
      long = ap length c.new-rows.ensures.items;
      read = ends_to (ends_start (t c.args.host.now)) (λ u w same. subst (λ (l : List Row). AreRows c.args.root.now [] u c.args.items.now.items l) (sym c.new-rows.ensures.items) tt);
    }

pub loop-path-preserved : goal.loop-path-preserved
loop-path-preserved g c =
    let t = g.met.H.Host.is_tree in
    let root = c.args.root.now in
    let path = c.path-item.result in
    let row = c.in_ok-row.row in
    record {
      still = looks_within c.read.ensures.unchanged c.loop-path.invariant.still (t c.loop-path.host);
      later = omega (arith, c.loop-path.invariant.later, c.read.ensures.fault_has_cause.later);
      long = omega (arith, ap length c.in_ok-add_row.ensures, length_push c.loop-path.rows.items row, c.loop-path.invariant.long);
      read = ends_on c.in_ok-row.ensures.tells (ends_both (ends_looks (t c.args.host.now) c.loop-path.invariant.still) c.loop-path.invariant.read) (t c.loop-path.host)
          (λ u v w tree q at. more_rows root c.args.paths.now c.loop-path.path-index path u c.loop-path.items.items c.read.new.items.items c.loop-path.rows.items _ row c.loop-path-test.true c.path-item.is q.1 c.in_ok-row.ensures.grows
          (subst (λ (x : View). IsRow root path x c.read.new.items.items row) q.0.0 at) c.in_ok-add_row.ensures);
    }

pub returns-in_err-row-clause-unchanged : goal.returns-in_err-row-clause-unchanged
returns-in_err-row-clause-unchanged g c = looks_within c.read.ensures.unchanged c.loop-path.invariant.still (g.met.H.Host.is_tree c.loop-path.host)

pub returns-in_err-row-clause-fault_has_cause : goal.returns-in_err-row-clause-fault_has_cause
returns-in_err-row-clause-fault_has_cause g c =
    let t = g.met.H.Host.is_tree in
    fault_caused (λ v. Unit {0}) (λ v. Unit {0}) _ _ _ _ _ (t c.args.host.now) c.loop-path.invariant.later (ends_looks (t c.args.host.now) c.loop-path.invariant.still) c.read.ensures.fault_has_cause
    (same_fault _ _ _ c.in_err-row.was c.from_residual.ensures.1) (λ u v tree q can. tt)

pub returns-in_err-add_row-clause-unchanged : goal.returns-in_err-add_row-clause-unchanged
returns-in_err-add_row-clause-unchanged g c = looks_within c.read.ensures.unchanged c.loop-path.invariant.still (g.met.H.Host.is_tree c.loop-path.host)

pub returns-clause-tells : goal.returns-clause-tells
returns-clause-tells g c = ends_to c.loop-path.invariant.read (λ u w so_far.
    all_rows c.args.root.now c.args.paths.now c.loop-path.path-index u c.loop-path.items.items c.loop-path.rows.items (omega (arith, c.loop-path-test.false, c.loop-path.auto.path-index-end)) so_far)
