use Rattle.std.proofs.Common.{arith, subst, sym}
use Rattle.fp_host.proofs.Cause.{same_fault}
use Rattle.fp_host.proofs.Framed.{frame_start, frame_looks, frame_within}
use Rattle.fp_host.proofs.Ending.{ends_on, ends_both, ends_frame, ends_to, fault_caused}
use Rattle.ost_refs.specs.Lists.{ListsRefs}
use Rattle.dep_states.specs.Sound.{Opens}
use Rattle.dep_states.proofs.Law.{frame_law}
use Rattle.dep_tidy.proofs.Clearing.{other_spares}
use Rattle.dep_tidy.proofs.RefFiles.{none_at_start, none_at_next, none_at_all}
use Rattle.dep_tidy.proofs.refs.drop_others.Goals as goal

pub returns-in_err-places-clause-frame : goal.returns-in_err-places-clause-frame
returns-in_err-places-clause-frame g c = let t = g.met.H.Host.is_tree in frame_looks c.list_refs.ensures.unchanged (frame_start (t c.args.host.now)) (t c.args.host.now)

pub loop-place-init : goal.loop-place-init
loop-place-init g c =
    let t = g.met.H.Host.is_tree in
    record {
      frame = frame_looks c.list_refs.ensures.unchanged (frame_start (t c.args.host.now)) (t c.args.host.now);
      none = ends_to c.in_ok-places.ensures.tells (λ u w lists. (subst (ListsRefs c.args.root.now u) (sym c.as_slice-place-items.ensures) lists, none_at_start c.as_slice-place-items.result.now w));
      later = c.list_refs.ensures.fault_has_cause.later;
    }

pub loop-place-preserved : goal.loop-place-preserved
loop-place-preserved g c =
    let t = g.met.H.Host.is_tree in
    let before = c.loop-place.invariant in
    record {
      frame = frame_within c.drop_other.ensures.frame before.frame (t c.loop-place.host) (λ q spot h. h) (λ q e h. h) (λ q h. h) (λ q id h put. h);
      none = ends_on (ends_both (ends_frame (t c.loop-place.host) c.drop_other.ensures.frame) c.in_ok-drop_other.ensures.on_success) before.none (t c.loop-place.host)
          (λ u v w tree none q. (none.0, none_at_next c.as_slice-place-items.result.now c.loop-place.place-index c.place-item.result c.loop-place-test.true c.place-item.is q.0.names none.1 q.1));
      later = omega (arith, before.later, c.drop_other.ensures.fault_has_cause.later);
    }

pub returns-in_err-drop_other-clause-frame : goal.returns-in_err-drop_other-clause-frame
returns-in_err-drop_other-clause-frame g c = frame_within c.drop_other.ensures.frame c.loop-place.invariant.frame (g.met.H.Host.is_tree c.loop-place.host) (λ q spot h. h) (λ q e h. h) (λ q h. h) (λ q id h put. h)

pub returns-in_err-drop_other-clause-fault_has_cause : goal.returns-in_err-drop_other-clause-fault_has_cause
returns-in_err-drop_other-clause-fault_has_cause g c =
    let t = g.met.H.Host.is_tree in
    fault_caused (Opens c.args.state.now) (Opens c.args.state.now) _ _ _ _ _ (t c.args.host.now) c.loop-place.invariant.later (ends_frame (t c.args.host.now) c.loop-place.invariant.frame) c.drop_other.ensures.fault_has_cause
    (same_fault _ _ _ c.in_err-drop_other.was c.from_residual-in_err-drop_other.ensures.1) (λ u v tree keeps opens. frame_law other_spares keeps.follows opens)

pub returns-clause-on_success : goal.returns-clause-on_success
returns-clause-on_success g c =
    let t = g.met.H.Host.is_tree in
    ends_to (ends_both (ends_frame (t c.args.host.now) c.loop-place.invariant.frame) c.loop-place.invariant.none)
    (λ u w q. none_at_all c.as_slice-place-items.result.now c.loop-place.place-index c.loop-place-test.false c.requires.root q.1.0 q.0.names q.1.1)
