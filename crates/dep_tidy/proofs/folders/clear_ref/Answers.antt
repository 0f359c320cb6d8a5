use Rattle.std.proofs.Common.{arith, subst, sym}
use Rattle.fp_host.proofs.Cause.{same_fault}
use Rattle.fp_host.proofs.Framed.{frame_start, frame_looks, frame_within}
use Rattle.fp_host.proofs.Ending.{ends_on, ends_both, ends_frame, ends_to, fault_caused}
use Rattle.fp_small.specs.Naming.{ListsIn}
use Rattle.dep_states.specs.Sound.{Opens}
use Rattle.dep_tidy.proofs.Clearing.{opens_unkept}
use Rattle.dep_tidy.proofs.UnkeptFolders.{none_of_start, none_of_next, none_of_all}
use Rattle.dep_tidy.proofs.folders.clear_ref.Goals as goal

pub returns-in_err-names-clause-frame : goal.returns-in_err-names-clause-frame
returns-in_err-names-clause-frame g c = let t = g.met.H.Host.is_tree in frame_looks c.names_in.ensures.unchanged (frame_start (t c.args.host.now)) (t c.args.host.now)

pub loop-text-init : goal.loop-text-init
loop-text-init g c =
    let t = g.met.H.Host.is_tree in
    record {
      frame = frame_looks c.names_in.ensures.unchanged (frame_start (t c.args.host.now)) (t c.args.host.now);
      none = ends_to c.in_ok-names.ensures.tells (λ u w lists. (subst (ListsIn c.args.folder.now u) (sym c.as_slice-text-items.ensures) lists, none_of_start c.as_slice-text-items.result.now w));
      later = c.names_in.ensures.fault_has_cause.later;
    }

pub loop-text-preserved : goal.loop-text-preserved
loop-text-preserved g c =
    let t = g.met.H.Host.is_tree in
    let before = c.loop-text.invariant in
    record {
      frame = frame_within c.clear_name.ensures.frame before.frame (t c.loop-text.host) (λ q spot h. h) (λ q e h. h) (λ q h. h) (λ q id h put. h);
      none = ends_on (ends_both (ends_frame (t c.loop-text.host) c.clear_name.ensures.frame) c.in_ok-clear_name.ensures.on_success) before.none (t c.loop-text.host)
          (λ u v w tree none q. (none.0, none_of_next c.as_slice-text-items.result.now c.loop-text.text-index c.text-item.result c.loop-text-test.true c.text-item.is q.0.names none.1 q.1));
      later = omega (arith, before.later, c.clear_name.ensures.fault_has_cause.later);
    }

pub returns-in_err-clear_name-clause-frame : goal.returns-in_err-clear_name-clause-frame
returns-in_err-clear_name-clause-frame g c = frame_within c.clear_name.ensures.frame c.loop-text.invariant.frame (g.met.H.Host.is_tree c.loop-text.host) (λ q spot h. h) (λ q e h. h) (λ q h. h) (λ q id h put. h)

pub returns-in_err-clear_name-clause-fault_has_cause : goal.returns-in_err-clear_name-clause-fault_has_cause
returns-in_err-clear_name-clause-fault_has_cause g c =
    let t = g.met.H.Host.is_tree in
    fault_caused (Opens c.args.state.now) (Opens c.args.state.now) _ _ _ _ _ (t c.args.host.now) c.loop-text.invariant.later (ends_frame (t c.args.host.now) c.loop-text.invariant.frame) c.clear_name.ensures.fault_has_cause
    (same_fault _ _ _ c.in_err-clear_name.was c.from_residual-in_err-clear_name.ensures.1) (λ u v tree keeps opens. opens_unkept keeps.follows opens)

pub returns-clause-on_success : goal.returns-clause-on_success
returns-clause-on_success g c =
    let t = g.met.H.Host.is_tree in
    ends_to (ends_both (ends_frame (t c.args.host.now) c.loop-text.invariant.frame) c.loop-text.invariant.none)
    (λ u w q. none_of_all c.as_slice-text-items.result.now c.loop-text.text-index c.loop-text-test.false c.requires.folder q.1.0 q.0.names q.1.1)
