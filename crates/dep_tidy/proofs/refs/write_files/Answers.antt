use Rattle.std.proofs.Common.{◌+◌, arith, take}
use Rattle.fp_host.specs.View.{IsTree}
use Rattle.fp_host.proofs.Cause.{same_fault}
use Rattle.fp_host.proofs.Goes.{goes_on, stays}
use Rattle.fp_host.proofs.Ending.{ends_on, ends_both, ends_goes, ends_start, ends_in_tree, ends_to, fault_caused}
use Rattle.fp_small.specs.Places.{repo}
use Rattle.ost_refs.specs.Changes.{CanWrite}
use Rattle.ost_refs.specs.declared.place.RefPlace.TheVariants.{Remote}
use Rattle.dep_states.specs.Sound.{Opens}
use Rattle.dep_tidy.specs.Steps.{Writes, WroteSome}
use Rattle.dep_tidy.proofs.RefFiles.{in_rows, writes_start, writes_on, wrote_none, wrote_next, wrote_all, can_write_row, opens_refs}
use Rattle.dep_tidy.proofs.refs.write_files.Goals as goal

pub loop-row-init : goal.loop-row-init
loop-row-init g c =
    let t = g.met.H.Host.is_tree in
    record {
      writes = stays (t c.args.host.now) (λ u. writes_start) (λ u t. writes_start);
      some = ends_to (ends_start (t c.args.host.now)) (λ u w same. wrote_none c.args.state.now c.as_slice-row-items.result.now same);
      later = omega arith;
    }

pub loop-row-preserved : goal.loop-row-preserved
loop-row-preserved g c =
    let t = g.met.H.Host.is_tree in
    let s = c.args.state.now in
    let items = c.as_slice-row-items.result.now in
    let before = c.loop-row.invariant in
    let h = t c.loop-row.host in
    record {
      writes = goes_on h before.writes c.write_file.ensures.any_moment (λ u v w tree r q x. writes_on c.args.state.now.refs c.as_slice-row-items.result.now c.loop-row.row-index c.row-item.result c.loop-row-test.true c.row-item.is c.as_slice-row-items.ensures r x) (λ u v w tree r q x e. writes_on c.args.state.now.refs c.as_slice-row-items.result.now c.loop-row.row-index c.row-item.result c.loop-row-test.true c.row-item.is c.as_slice-row-items.ensures r e);
      some = ends_in_tree (t c.write_file.new.host) (ends_on {Q' = λ u w. IsTree w → WroteSome s (take (c.loop-row.row-index + 1) items) u w}
          (ends_both (ends_goes h c.write_file.ensures.any_moment) c.in_ok-write_file.ensures.on_success) before.some h
          (λ u v w tree q x next. wrote_next s items c.loop-row.row-index c.row-item.result c.loop-row-test.true c.row-item.is c.as_slice-row-items.ensures tree next q x.0 x.1))
          (λ u w next q. q next);
      later = omega (arith, before.later, c.write_file.ensures.fault_has_cause.later);
    }

pub returns-in_err-write_file-clause-any_moment : goal.returns-in_err-write_file-clause-any_moment
returns-in_err-write_file-clause-any_moment g c =
    let t = g.met.H.Host.is_tree in
    goes_on (t c.loop-row.host) c.loop-row.invariant.writes c.write_file.ensures.any_moment (λ u v w tree r q x. writes_on c.args.state.now.refs c.as_slice-row-items.result.now c.loop-row.row-index c.row-item.result c.loop-row-test.true c.row-item.is c.as_slice-row-items.ensures r x) (λ u v w tree r q x e. writes_on c.args.state.now.refs c.as_slice-row-items.result.now c.loop-row.row-index c.row-item.result c.loop-row-test.true c.row-item.is c.as_slice-row-items.ensures r e)

pub returns-in_err-write_file-clause-fault_has_cause : goal.returns-in_err-write_file-clause-fault_has_cause
returns-in_err-write_file-clause-fault_has_cause g c =
    let t = g.met.H.Host.is_tree in
    fault_caused {Q = λ u v. IsTree v × Writes c.args.state.now.refs u v} (Opens c.args.state.now) (CanWrite repo (Remote c.row-item.result.origin c.row-item.result.name)) _ _ _ _ _ (t c.args.host.now) c.loop-row.invariant.later
    (ends_in_tree (t c.loop-row.host) (ends_goes (t c.args.host.now) c.loop-row.invariant.writes) (λ u v tree q. (tree, q))) c.write_file.ensures.fault_has_cause
    (same_fault _ _ _ c.in_err-write_file.was c.from_residual.ensures.1)
    (λ u v tree q opens. can_write_row c.args.state.now c.row-item.result (in_rows c.args.state.now.refs c.as_slice-row-items.result.now c.loop-row.row-index c.row-item.result c.loop-row-test.true c.row-item.is c.as_slice-row-items.ensures) q.0 (opens_refs q.1 opens))

pub returns-clause-on_success : goal.returns-clause-on_success
returns-clause-on_success g c = ends_to c.loop-row.invariant.some (λ u w q. wrote_all c.args.state.now c.as_slice-row-items.result.now c.loop-row.row-index c.loop-row-test.false c.as_slice-row-items.ensures q)
