use Rattle.std.proofs.Common.{arith, subst, sym}
use Rattle.fp_host.specs.View.{IsTree}
use Rattle.fp_host.proofs.Cause.{same_fault}
use Rattle.fp_host.proofs.Framed.{frame_start, frame_looks, frame_within}
use Rattle.fp_host.proofs.Goes.{knowing}
use Rattle.fp_host.proofs.Ending.{ends_on, ends_both, ends_frame, ends_to, fault_caused}
use Rattle.dep_states.specs.Sound.{Opens}
use Rattle.dep_states.specs.Branches.{AreBranches}
use Rattle.dep_tidy.specs.Steps.{HasNoUnkept}
use Rattle.dep_tidy.proofs.Clearing.{opens_unkept}
use Rattle.dep_tidy.proofs.UnkeptFolders.{none_in_start, none_in_next, none_in_all}
use Rattle.dep_tidy.proofs.folders.clear_folders.Goals as goal

pub returns-in_err-paths-clause-frame : goal.returns-in_err-paths-clause-frame
returns-in_err-paths-clause-frame g c = let t = g.met.H.Host.is_tree in frame_looks c.branch_paths.ensures.unchanged (frame_start (t c.args.host.now)) (t c.args.host.now)

pub loop-path-init : goal.loop-path-init
loop-path-init g c =
    let t = g.met.H.Host.is_tree in
    record {
      frame = frame_looks c.branch_paths.ensures.unchanged (frame_start (t c.args.host.now)) (t c.args.host.now);
      none = ends_to c.in_ok-paths.ensures.tells (λ u w are. (subst (AreBranches u) (sym c.as_slice-path-items.ensures.value) are, none_in_start c.as_slice-path-items.result.now w));
      later = c.branch_paths.ensures.fault_has_cause.later;
    }

pub loop-path-preserved : goal.loop-path-preserved
loop-path-preserved g c =
    let t = g.met.H.Host.is_tree in
    let before = c.loop-path.invariant in
    record {
      frame = frame_within c.clear_branch.ensures.frame before.frame (t c.loop-path.host) (λ q spot h. h) (λ q e h. h) (λ q h. h) (λ q id h put. h);
      none = ends_on (ends_both (ends_frame (t c.loop-path.host) c.clear_branch.ensures.frame) c.in_ok-clear_branch.ensures.on_success) before.none (t c.loop-path.host)
          (λ u v w tree none q. (none.0, none_in_next c.as_slice-path-items.result.now c.loop-path.path-index c.path-item.result c.loop-path-test.true c.path-item.is q.0.names none.1 q.1));
      later = omega (arith, before.later, c.clear_branch.ensures.fault_has_cause.later);
    }

pub returns-in_err-clear_branch-clause-frame : goal.returns-in_err-clear_branch-clause-frame
returns-in_err-clear_branch-clause-frame g c = frame_within c.clear_branch.ensures.frame c.loop-path.invariant.frame (g.met.H.Host.is_tree c.loop-path.host) (λ q spot h. h) (λ q e h. h) (λ q h. h) (λ q id h put. h)

pub returns-in_err-clear_branch-clause-fault_has_cause : goal.returns-in_err-clear_branch-clause-fault_has_cause
returns-in_err-clear_branch-clause-fault_has_cause g c =
    let t = g.met.H.Host.is_tree in
    fault_caused (Opens c.args.state.now) (Opens c.args.state.now) _ _ _ _ _ (t c.args.host.now) c.loop-path.invariant.later (ends_frame (t c.args.host.now) c.loop-path.invariant.frame) c.clear_branch.ensures.fault_has_cause
    (same_fault _ _ _ c.in_err-clear_branch.was c.from_residual-in_err-clear_branch.ensures.1) (λ u v tree keeps opens. opens_unkept keeps.follows opens)

pub returns-clause-on_success : goal.returns-clause-on_success
returns-clause-on_success g c =
    let t = g.met.H.Host.is_tree in
    let all = ends_both (ends_frame (t c.args.host.now) c.loop-path.invariant.frame) c.loop-path.invariant.none in
    record {
      goes = knowing {P = IsTree} {Q' = λ u w. HasNoUnkept c.args.state.now w} (t c.args.host.now) all.goes (λ u w tree r. r) (λ u w tree q. none_in_all c.as_slice-path-items.result.now c.loop-path.path-index c.loop-path-test.false tree q.1.0 q.0.names q.1.1);
    }
