use Rattle.std.proofs.Common.{take, arith}
use Rattle.fp_host.specs.View.{IsTree}
use Rattle.fp_host.specs.Frame.{Keeps, NoPath}
use Rattle.fp_host.proofs.Cause.{same_fault}
use Rattle.fp_host.proofs.Framed.{frame_start, frame_within, keeps_same}
use Rattle.fp_host.proofs.Ending.{ends_on, ends_both, ends_frame, ends_in_tree, ends_start, ends_to, fault_caused}
use Rattle.fp_small.proofs.Unsynced.{none_on, none_same}
use Rattle.ost_store.specs.Place.{HasObject}
use Rattle.ost_prune.specs.Removing.{GoneAmong, AbsentAmong, CanRemoveAll}
use Rattle.ost_prune.proofs.Removed.{gone_among, absent_among, next_kept, next_gone, there_still, none_gone, all_gone}
use Rattle.ost_prune.proofs.removing.remove_each.Goals as goal

pub loop-object-init : goal.loop-object-init
loop-object-init g c =
    let t = g.met.H.Host.is_tree in
    record {
      frame = frame_start (t c.args.host.now);
      kept = ends_to (ends_start (t c.args.host.now)) (λ u w same. (keeps_same same, none_gone c.args.root.now w));
      unsynced = ends_to (ends_start (t c.args.host.now)) (λ u w same. none_same same);
      later = omega arith;
    }

pub loop-object-preserved : goal.loop-object-preserved
loop-object-preserved g c =
    let t = g.met.H.Host.is_tree in
    let root = c.args.root.now in
    let objects = c.args.objects.now in
    let i = c.loop-object.object-index in
    let o = c.object-item.result in
    let low = c.loop-object-test.true in
    let is = c.object-item.is in
    let before = c.loop-object.invariant in
    record {
      frame = frame_within c.remove.ensures.frame before.frame (t c.loop-object.host) (gone_among root objects i o low is) (absent_among root objects i o low is) (λ q none. none) (λ q id none h. none);
      kept = ends_on (ends_both (ends_frame (t c.loop-object.host) c.remove.ensures.frame) c.in_ok-remove.ensures.on_success) before.kept (t c.loop-object.host)
          (λ u v w tree q s. (next_kept root objects i o low is q.0 s.0, next_gone root objects i o low is q.1 s.0 s.1));
      unsynced = ends_on c.remove.ensures.unsynced before.unsynced (t c.loop-object.host) (λ u v w tree q s. none_on q s);
      later = omega (arith, before.later, c.remove.ensures.fault_has_cause.later);
    }

pub returns-in_err-remove-clause-frame : goal.returns-in_err-remove-clause-frame
returns-in_err-remove-clause-frame g c =
    let t = g.met.H.Host.is_tree in
    let o = c.object-item.result in
    frame_within c.remove.ensures.frame c.loop-object.invariant.frame (t c.loop-object.host) (gone_among c.args.root.now c.args.objects.now c.loop-object.object-index o c.loop-object-test.true c.object-item.is)
    (absent_among c.args.root.now c.args.objects.now c.loop-object.object-index o c.loop-object-test.true c.object-item.is) (λ q none. none) (λ q id none h. none)

pub returns-in_err-remove-clause-unsynced : goal.returns-in_err-remove-clause-unsynced
returns-in_err-remove-clause-unsynced g c =
    ends_on c.remove.ensures.unsynced c.loop-object.invariant.unsynced (g.met.H.Host.is_tree c.loop-object.host) (λ u v w tree q s. none_on q s)

pub returns-in_err-remove-clause-fault_has_cause : goal.returns-in_err-remove-clause-fault_has_cause
returns-in_err-remove-clause-fault_has_cause g c =
    let t = g.met.H.Host.is_tree in
    let root = c.args.root.now in
    let objects = c.args.objects.now in
    let o = c.object-item.result in
    let i = c.loop-object.object-index in
    fault_caused {Q = λ u w. IsTree w × Keeps (GoneAmong root (take i objects)) (AbsentAmong root (take i objects)) NoPath u w} (CanRemoveAll root objects) (HasObject root o.0 o.1) _ _ _ _ _ (t c.args.host.now) c.loop-object.invariant.later
    (ends_in_tree (t c.loop-object.host) c.loop-object.invariant.kept (λ u w tree q. (tree, q.0))) c.remove.ensures.fault_has_cause (same_fault _ _ _ c.in_err-remove.was c.from_residual.ensures.1)
    (λ u v tree q can. there_still root objects c.loop-object.object-index o c.loop-object-test.true c.object-item.is tree q.0 can q.1)

pub returns-clause-on_success : goal.returns-clause-on_success
returns-clause-on_success g c = ends_to c.loop-object.invariant.kept (λ u w q.
    all_gone c.args.root.now c.args.objects.now c.loop-object.object-index w (omega (arith, c.loop-object-test.false, c.loop-object.auto.object-index-end)) q.1)
