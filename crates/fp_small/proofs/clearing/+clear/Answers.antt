use Rattle.std.proofs.Common.{◌≡◌, ◌≢◌, ◌⊎◌, ◌∙◌, ◌-◌, ◌∷◌, [], inl, inr, ℕ, List, Ok, refl, sym, ap, subst, arith}
use Rattle.std.proofs.lemmas.List.{take_all}
use Rattle.fp_host.specs.Paths.{dir, absent, IsAbove}
use Rattle.fp_host.specs.View.{View, IsTree}
use Rattle.fp_host.specs.Calls.{Can, removes_dir}
use Rattle.fp_host.specs.Frame.{NoPath}
use Rattle.fp_host.specs.Reads.{StatOf}
use Rattle.fp_host.proofs.Cause.{clash_step, same_fault}
use Rattle.fp_host.proofs.Framed.{frame_start, frame_stat, frame_list, frame_within, frame_remove_dir, frame_unlink}
use Rattle.fp_host.proofs.Ending.{ends_call, ends_on, ends_to, ends_both, ends_frame, ends_in_tree, fault_caused, call_caused}
use Rattle.fp_host.proofs.Slots.{leaf_no_folder}
use Rattle.fp_small.specs.Naming.{ListsIn}
use Rattle.fp_small.specs.Clear.{GoneBelow, AbsentBelow, IsCleared, Reaches, ReachesDown}
use Rattle.fp_small.proofs.Making.{stat_dir, stat_absent, lists_of}
use Rattle.fp_small.proofs.Emptying.{within_child, AreCleared, none_yet, one_cleared, within_reach, reaches_child, reaches_no_dir, AreReached, none_reached, one_reached, all_reached, none_left, cleared_absent, unlinked, dir_removed, can_remove}
use Rattle.fp_small.proofs.clearing.+clear.Goals as goal

pub clear_names-returns-in_err-names-clause-frame : goal.clear_names-returns-in_err-names-clause-frame
clear_names-returns-in_err-names-clause-frame g t c = let tree = g.met.H.Host.is_tree in frame_list c.list.ensures.step (frame_start (tree c.args.host.now)) (tree c.args.host.now)

pub clear_names-loop-name-init : goal.clear_names-loop-name-init
clear_names-loop-name-init g t c =
    let tree = g.met.H.Host.is_tree in
    record {
      frame = frame_list c.list.ensures.step (frame_start (tree c.args.host.now)) (tree c.args.host.now);
      tells = ends_to (ends_call (tree c.args.host.now) c.in_ok-names.ensures.step) (λ u w s. (subst (ListsIn c.args.path.now u) (sym c.as_slice-name-items.ensures) (lists_of refl s), none_yet c.args.path.now w));
      reached = ends_in_tree (tree c.list.new.self) (ends_call (tree c.args.host.now) c.in_ok-names.ensures.step) (λ u w is s. (subst IsTree s.same is, none_reached c.args.path.now c.args.depth s.same));
      later = c.list.ensures.fault_has_cause.later;
    }

pub clear_names-returns-then-depth-eq0-clause-fault_has_cause : goal.clear_names-returns-then-depth-eq0-clause-fault_has_cause
clear_names-returns-then-depth-eq0-clause-fault_has_cause g t c = record {
  later = c.loop-name.invariant.later;
  fault = λ is m told can. absurd (within_reach c.args.path.now c.as_slice-name-items.result.now c.loop-name.name-index c.name-item.result c.loop-name-test.true c.name-item.is (c.loop-name.invariant.tells.goes.told m told).3.0 can.1 c.if-depth-eq0.true);
}

pub clear_names-returns-in_err-clear_within-clause-frame : goal.clear_names-returns-in_err-clear_within-clause-frame
clear_names-returns-in_err-clear_within-clause-frame g t c =
    let p = c.args.path.now in
    let child : c.in_ok-child.child ≡ c.as_str.result.now ∷ p = c.in_ok-child.ensures in
    frame_within c.clear_within.ensures.frame c.loop-name.invariant.frame (g.met.H.Host.is_tree c.loop-name.host)
    (λ q spot h. (within_child c.as_str.result.now p q (subst (λ r. (q ≡ r) ⊎ IsAbove r q) child h.0), h.1)) (λ q e h. (within_child c.as_str.result.now p q (subst (λ r. (q ≡ r) ⊎ IsAbove r q) child h.0), h.1)) (λ q h. h) (λ q id h put. h)

pub clear_names-returns-in_err-clear_within-clause-fault_has_cause : goal.clear_names-returns-in_err-clear_within-clause-fault_has_cause
clear_names-returns-in_err-clear_within-clause-fault_has_cause g t c =
    let tree = g.met.H.Host.is_tree in
    let p = c.args.path.now in
    let child : c.in_ok-child.child ≡ c.as_str.result.now ∷ p = c.in_ok-child.ensures in
    fault_caused (λ v. (v.names p ≡ dir) × Reaches p c.args.depth v) (ReachesDown c.in_ok-child.child (c.args.depth - 1)) _ _ _ _ _ (tree c.args.host.now) c.loop-name.invariant.later (ends_frame (tree c.args.host.now) c.loop-name.invariant.frame) c.clear_within.ensures.fault_has_cause
    (same_fault _ _ _ c.in_err-clear_within.was c.from_residual-in_err-clear_within.ensures.1)
    (λ u v is keeps can. subst (λ r. ReachesDown r (c.args.depth - 1) v) (sym child) (reaches_child p c.as_str.result.now keeps.names can.1 c.if-depth-eq0.false))

pub clear_names-loop-name-preserved : goal.clear_names-loop-name-preserved
clear_names-loop-name-preserved g t c =
    let tree = g.met.H.Host.is_tree in
    let p = c.args.path.now in
    let child : c.in_ok-child.child ≡ c.name-item.result ∷ p = c.in_ok-child.ensures ∙ ap (λ (x : List ℕ). x ∷ p) c.as_str.ensures in
    let cleared = ends_both (ends_frame (tree c.loop-name.host) c.clear_within.ensures.frame) c.in_ok-clear_within.ensures.on_success in
    record {
      frame = frame_within c.clear_within.ensures.frame c.loop-name.invariant.frame (tree c.loop-name.host)
          (λ q spot h. (within_child c.name-item.result p q (subst (λ r. (q ≡ r) ⊎ IsAbove r q) child h.0), h.1)) (λ q e h. (within_child c.name-item.result p q (subst (λ r. (q ≡ r) ⊎ IsAbove r q) child h.0), h.1)) (λ q h. h) (λ q id h put. h);
      tells = ends_on cleared c.loop-name.invariant.tells (tree c.loop-name.host) (λ u v w is q s. (
        q.0,
        one_cleared p c.as_slice-name-items.result.now c.loop-name.name-index c.name-item.result c.loop-name-test.true c.name-item.is q.1
            (subst (λ r. (x : List (List ℕ)) → (w.names x ≡ v.names x) ⊎ (((x ≡ r) ⊎ IsAbove r x) × (w.names x ≡ absent))) child s.0.names)
            (subst (λ r. IsCleared r w) child s.1),
      ));
      reached = ends_on (ends_both cleared c.in_ok-clear_within.ensures.reach) c.loop-name.invariant.reached (tree c.loop-name.host) (λ u v w is q s. (
        q.0,
        one_reached p c.args.depth c.as_slice-name-items.result.now c.loop-name.name-index c.name-item.result c.loop-name-test.true c.name-item.is c.if-depth-eq0.false q.1
            (subst (λ r. Reaches r (c.args.depth - 1) v) child s.1)
            (subst (λ r. (x : List (List ℕ)) → (w.names x ≡ v.names x) ⊎ (((x ≡ r) ⊎ IsAbove r x) × (w.names x ≡ absent))) child s.0.0.names),
      ));
      later = omega (arith, c.loop-name.invariant.later, c.clear_within.ensures.fault_has_cause.later);
    }

pub clear_names-returns-clause-on_success : goal.clear_names-returns-clause-on_success
clear_names-returns-clause-on_success g t c =
    let tree = g.met.H.Host.is_tree in
    let p = c.args.path.now in
    let items = c.as_slice-name-items.result.now in
    ends_in_tree (tree c.loop-name.host) (ends_both (ends_frame (tree c.args.host.now) c.loop-name.invariant.frame) c.loop-name.invariant.tells)
    (λ u w is q. none_left is q.1.0 (subst (λ (l : List (List ℕ)). AreCleared p l w) (take_all c.loop-name.name-index items c.loop-name-test.false) q.1.1) q.0.names)

pub clear_names-returns-clause-reach : goal.clear_names-returns-clause-reach
clear_names-returns-clause-reach g t c =
    let tree = g.met.H.Host.is_tree in
    let p = c.args.path.now in
    let items = c.as_slice-name-items.result.now in
    ends_to (ends_both c.loop-name.invariant.tells c.loop-name.invariant.reached)
    (λ u w q. all_reached q.1.0 q.0.0 (subst (λ (l : List (List ℕ)). AreReached p c.args.depth l u w) (take_all c.loop-name.name-index items c.loop-name-test.false) q.1.1))

pub clear_within-returns-in_err-stat-clause-frame : goal.clear_within-returns-in_err-stat-clause-frame
clear_within-returns-in_err-stat-clause-frame g t c = let tree = g.met.H.Host.is_tree in frame_stat c.stat.ensures.step (frame_start (tree c.args.host.now)) (tree c.args.host.now)

pub clear_within-returns-in_err-clear_names-in-Dir-clause-frame : goal.clear_within-returns-in_err-clear_names-in-Dir-clause-frame
clear_within-returns-in_err-clear_names-in-Dir-clause-frame g t c =
    let tree = g.met.H.Host.is_tree in
    frame_within c.clear_names.ensures.frame (frame_stat c.stat.ensures.step (frame_start (tree c.args.host.now)) (tree c.args.host.now)) (tree c.stat.new.self) (λ q spot h. (inr h.0, h.1)) (λ q e h. (inr h.0, h.1)) (λ q h. h) (λ q id h put. h)

pub clear_within-returns-in_err-remove_dir-in-Dir-clause-frame : goal.clear_within-returns-in_err-remove_dir-in-Dir-clause-frame
clear_within-returns-in_err-remove_dir-in-Dir-clause-frame g t c =
    let tree = g.met.H.Host.is_tree in
    frame_remove_dir c.remove_dir.ensures.step
    (frame_within c.clear_names.ensures.frame (frame_stat c.stat.ensures.step (frame_start (tree c.args.host.now)) (tree c.args.host.now)) (tree c.stat.new.self) (λ q spot h. (inr h.0, h.1)) (λ q e h. (inr h.0, h.1)) (λ q h. h) (λ q id h put. h))
    (tree c.clear_names.new.host) (inl refl, refl) (inl refl, refl)

pub clear_within-returns-in_err-remove_dir-in-Dir-clause-fault_has_cause : goal.clear_within-returns-in_err-remove_dir-in-Dir-clause-fault_has_cause
clear_within-returns-in_err-remove_dir-in-Dir-clause-fault_has_cause g t c =
    let tree = g.met.H.Host.is_tree in
    let p = c.args.path.now in
    let e = c.in_err-remove_dir-in-Dir.ensures in
    let seen = ends_to {Q' = λ u w. (w ≡ u) × (u.names p ≡ dir)} (ends_call (tree c.args.host.now) c.in_ok-stat.ensures.step) (λ u w s. (s.same, stat_dir (subst (λ r. StatOf p (Ok r) u w) c.in-Dir.is s))) in
    let below = ends_both (ends_frame (tree c.stat.new.self) c.clear_names.ensures.frame) c.in_ok-clear_names-in-Dir.ensures.on_success in
    let known = ends_on {Q' = λ u w. p ≢ [] → Can (removes_dir p) w} below seen (tree c.stat.new.self) (λ u v w is q s no_root. can_remove p v w (ap (λ (x : View). x.names p) q.0 ∙ q.1) no_root s.0.names s.1) in
    call_caused (ReachesDown p c.args.depth) (Can (removes_dir p)) _ _ _ _ _ (tree c.args.host.now) (omega (arith, c.stat.ensures.fault_has_cause.later, c.clear_names.ensures.fault_has_cause.later)) known e.step e.fault_has_cause c.from_residual-in_err-remove_dir-in-Dir.ensures.1 (λ v w step. clash_step step) (λ u v is q can. q can.no_root)

pub clear_within-returns-in_err-unlink-in-File-clause-frame : goal.clear_within-returns-in_err-unlink-in-File-clause-frame
clear_within-returns-in_err-unlink-in-File-clause-frame g t c =
    let tree = g.met.H.Host.is_tree in
    frame_unlink c.unlink.ensures.step (frame_stat c.stat.ensures.step (frame_start (tree c.args.host.now)) (tree c.args.host.now)) (tree c.stat.new.self) (inl refl, refl) (inl refl, refl)

pub clear_within-returns-in-Absent-clause-frame : goal.clear_within-returns-in-Absent-clause-frame
clear_within-returns-in-Absent-clause-frame g t c = let tree = g.met.H.Host.is_tree in frame_stat c.stat.ensures.step (frame_start (tree c.args.host.now)) (tree c.args.host.now)

pub clear_within-returns-in-Absent-clause-on_success : goal.clear_within-returns-in-Absent-clause-on_success
clear_within-returns-in-Absent-clause-on_success g t c =
    let tree = g.met.H.Host.is_tree in
    let p = c.args.path.now in
    ends_in_tree (tree c.stat.new.self) (ends_call (tree c.args.host.now) c.in_ok-stat.ensures.step) (λ u w is s. cleared_absent is (ap (λ (x : View). x.names p) s.same ∙ stat_absent (subst (λ r. StatOf p (Ok r) u w) c.in-Absent.is s)))

pub clear_within-returns-in-Absent-clause-reach : goal.clear_within-returns-in-Absent-clause-reach
clear_within-returns-in-Absent-clause-reach g t c =
    let tree = g.met.H.Host.is_tree in
    let p = c.args.path.now in
    ends_in_tree (tree c.stat.new.self) (ends_call (tree c.args.host.now) c.in_ok-stat.ensures.step) (λ u w is s. reaches_no_dir p c.args.depth (subst IsTree s.same is) (λ there. cc (there, stat_absent (subst (λ r. StatOf p (Ok r) u w) c.in-Absent.is s))))

pub clear_within-returns-in_ok-remove_dir-in-Dir-clause-reach : goal.clear_within-returns-in_ok-remove_dir-in-Dir-clause-reach
clear_within-returns-in_ok-remove_dir-in-Dir-clause-reach g t c =
    let tree = g.met.H.Host.is_tree in
    let p = c.args.path.now in
    let below = ends_on {Q' = λ u w. Reaches p c.args.depth u} c.in_ok-clear_names-in-Dir.ensures.reach (ends_call (tree c.args.host.now) c.in_ok-stat.ensures.step) (tree c.stat.new.self) (λ u v w is q s. subst (Reaches p c.args.depth) q.same s) in
    ends_on (ends_call (tree c.clear_names.new.host) c.in_ok-remove_dir-in-Dir.ensures.step) below (tree c.clear_names.new.host) (λ u v w is q s. q)

pub clear_within-returns-in_ok-unlink-in-File-clause-reach : goal.clear_within-returns-in_ok-unlink-in-File-clause-reach
clear_within-returns-in_ok-unlink-in-File-clause-reach g t c =
    let tree = g.met.H.Host.is_tree in
    let p = c.args.path.now in
    ends_on (ends_call (tree c.stat.new.self) c.in_ok-unlink-in-File.ensures.step) (ends_call (tree c.args.host.now) c.stat.ensures.step) (tree c.stat.new.self) (λ u v w is q s. subst (Reaches p c.args.depth) q.same (reaches_no_dir p c.args.depth is (leaf_no_folder (v.names p) s.how.0)))

pub clear_within-returns-in_ok-remove_dir-in-Dir-clause-frame : goal.clear_within-returns-in_ok-remove_dir-in-Dir-clause-frame
clear_within-returns-in_ok-remove_dir-in-Dir-clause-frame g t c =
    let tree = g.met.H.Host.is_tree in
    frame_remove_dir c.remove_dir.ensures.step
    (frame_within c.clear_names.ensures.frame (frame_stat c.stat.ensures.step (frame_start (tree c.args.host.now)) (tree c.args.host.now)) (tree c.stat.new.self) (λ q spot h. (inr h.0, h.1)) (λ q e h. (inr h.0, h.1)) (λ q h. h) (λ q id h put. h))
    (tree c.clear_names.new.host) (inl refl, refl) (inl refl, refl)

pub clear_within-returns-in_ok-remove_dir-in-Dir-clause-on_success : goal.clear_within-returns-in_ok-remove_dir-in-Dir-clause-on_success
clear_within-returns-in_ok-remove_dir-in-Dir-clause-on_success g t c =
    let tree = g.met.H.Host.is_tree in
    let p = c.args.path.now in
    let frame = frame_within {G = GoneBelow p} {W = AbsentBelow p} {A = NoPath} c.clear_names.ensures.frame (frame_stat c.stat.ensures.step (frame_start (tree c.args.host.now)) (tree c.args.host.now)) (tree c.stat.new.self) (λ q spot h. h) (λ q e h. h) (λ q h. h) (λ q id h put. h) in
    ends_in_tree (tree c.remove_dir.new.self)
    (ends_on {Q' = λ u w. w.names p ≡ absent} (ends_call (tree c.clear_names.new.host) c.in_ok-remove_dir-in-Dir.ensures.step) (ends_frame (tree c.args.host.now) frame) (tree c.clear_names.new.host) (λ u v w is q s. dir_removed s))
    (λ u w is none. cleared_absent is none)

pub clear_within-returns-in_ok-unlink-in-File-clause-frame : goal.clear_within-returns-in_ok-unlink-in-File-clause-frame
clear_within-returns-in_ok-unlink-in-File-clause-frame g t c =
    let tree = g.met.H.Host.is_tree in
    frame_unlink c.unlink.ensures.step (frame_stat c.stat.ensures.step (frame_start (tree c.args.host.now)) (tree c.args.host.now)) (tree c.stat.new.self) (inl refl, refl) (inl refl, refl)

pub clear_within-returns-in_ok-unlink-in-File-clause-on_success : goal.clear_within-returns-in_ok-unlink-in-File-clause-on_success
clear_within-returns-in_ok-unlink-in-File-clause-on_success g t c =
    let tree = g.met.H.Host.is_tree in
    let p = c.args.path.now in
    ends_in_tree (tree c.unlink.new.self)
    (ends_on {Q' = λ u w. w.names p ≡ absent} (ends_call (tree c.stat.new.self) c.in_ok-unlink-in-File.ensures.step) (ends_call (tree c.args.host.now) c.stat.ensures.step) (tree c.stat.new.self) (λ u v w is q s. unlinked s))
    (λ u w is none. cleared_absent is none)
