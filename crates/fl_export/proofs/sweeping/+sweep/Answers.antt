use Rattle.std.proofs.Common.{◌≡◌, ◌-◌, ◌∷◌, inr, ℕ, List, Ok, refl, sym, ◌∙◌, ap, subst, arith}
use Rattle.std.proofs.lemmas.List.{take_all}
use Rattle.std.proofs.lemmas.Result.{on_ok_weaker}
use Rattle.fp_host.specs.Paths.{Elements, dir}
use Rattle.fp_host.specs.View.{View, IsTree}
use Rattle.fp_host.specs.Calls.{IsNoDir}
use Rattle.fp_host.specs.Reads.{StatOf}
use Rattle.fp_host.proofs.Cause.{same_fault}
use Rattle.fp_host.proofs.Goes.{begins, goes_on, makes_goes}
use Rattle.fp_host.proofs.Ending.{ends_call, ends_on, ends_to, ends_both, ends_goes, ends_in_tree, fault_caused}
use Rattle.fp_host.proofs.Slots.{no_dir_leaf, leaf_no_folder}
use Rattle.fp_small.specs.Naming.{ListsIn}
use Rattle.fp_small.specs.Clear.{IsWithin, Reaches}
use Rattle.fp_small.proofs.Making.{stat_dir, stat_absent, lists_of}
use Rattle.fp_small.proofs.Emptying.{stat_leaf, reaches_no_dir, AreReached, none_reached, one_reached, all_reached}
use Rattle.fl_export.specs.Steps.{Sweeps, HasNoStaleIn}
use Rattle.fl_export.proofs.Swept.{sweeps_same, sweeps_to, leaf_swept, leaf_done, absent_done, folder_done, AreSwept, none_swept, child_on, swept_next, within_reach, reach_on, all_swept, from_same, names_swept}
use Rattle.fl_export.proofs.sweeping.+sweep.Goals as goal

-- ---- the names in a folder

pub sweep_names-returns-in_err-names-clause-any_moment : goal.sweep_names-returns-in_err-names-clause-any_moment
sweep_names-returns-in_err-names-clause-any_moment g t c = begins (g.met.H.Host.is_tree c.args.host.now) (makes_goes c.list.ensures.step) (λ u w t s. sweeps_same s.same) (λ u w t s q. sweeps_same s.same)

pub sweep_names-loop-name-init : goal.sweep_names-loop-name-init
sweep_names-loop-name-init g t c =
    let tree = g.met.H.Host.is_tree in
    record {
      sweeps = begins (tree c.args.host.now) (makes_goes c.list.ensures.step) (λ u w t s. sweeps_same s.same) (λ u w t s q. sweeps_same s.same);
      swept = ends_to (ends_call (tree c.args.host.now) c.in_ok-names.ensures.step) (λ u w s. (subst (ListsIn c.args.path.now u) (sym c.as_slice-name-items.ensures) (lists_of refl s), none_swept c.args.path.now c.args.places.now w));
      reached = ends_in_tree (tree c.list.new.self) (ends_call (tree c.args.host.now) c.in_ok-names.ensures.step) (λ u w is s. (subst IsTree s.same is, none_reached c.args.path.now c.args.depth s.same));
      later = c.list.ensures.fault_has_cause.later;
    }

pub sweep_names-returns-then-depth-eq0-clause-fault_has_cause : goal.sweep_names-returns-then-depth-eq0-clause-fault_has_cause
sweep_names-returns-then-depth-eq0-clause-fault_has_cause g t c = record {
  later = c.loop-name.invariant.later;
  fault = λ is m told can. absurd (within_reach c.args.path.now c.args.places.now c.as_slice-name-items.result.now c.loop-name.name-index c.name-item.result c.loop-name-test.true c.name-item.is (c.loop-name.invariant.swept.goes.told m told).3.0 can.1 c.if-depth-eq0.true);
}

pub sweep_names-returns-in_err-sweep_within-clause-any_moment : goal.sweep_names-returns-in_err-sweep_within-clause-any_moment
sweep_names-returns-in_err-sweep_within-clause-any_moment g t c =
    let p = c.args.path.now in
    let child : c.in_ok-child.child ≡ c.name-item.result ∷ p = c.in_ok-child.ensures ∙ ap (λ (x : List ℕ). x ∷ p) c.as_str.ensures in
    let at = λ (v w : View) (s : Sweeps (IsWithin c.in_ok-child.child) c.args.places.now v w). subst (λ (r : Elements). Sweeps (IsWithin r) c.args.places.now v w) child s in
    goes_on (g.met.H.Host.is_tree c.loop-name.host) c.loop-name.invariant.sweeps c.sweep_within.ensures.any_moment
    (λ u v w t r q s. child_on p c.args.places.now c.as_slice-name-items.result.now c.loop-name.name-index c.name-item.result c.loop-name-test.true c.name-item.is r (at v w s))
    (λ u v w t r q s e. child_on p c.args.places.now c.as_slice-name-items.result.now c.loop-name.name-index c.name-item.result c.loop-name-test.true c.name-item.is r (at v w e))

pub sweep_names-returns-in_err-sweep_within-clause-fault_has_cause : goal.sweep_names-returns-in_err-sweep_within-clause-fault_has_cause
sweep_names-returns-in_err-sweep_within-clause-fault_has_cause g t c =
    let tree = g.met.H.Host.is_tree in
    let p = c.args.path.now in
    let child : c.in_ok-child.child ≡ c.as_str.result.now ∷ p = c.in_ok-child.ensures in
    fault_caused (λ v. (v.names p ≡ dir) × Reaches p c.args.depth v) (Reaches c.in_ok-child.child (c.args.depth - 1)) _ _ _ _ _ (tree c.args.host.now) c.loop-name.invariant.later (ends_goes (tree c.args.host.now) c.loop-name.invariant.sweeps) c.sweep_within.ensures.fault_has_cause
    (same_fault _ _ _ c.in_err-sweep_within.was c.from_residual-in_err-sweep_within.ensures.1)
    (λ u v is s can. subst (λ (r : Elements). Reaches r (c.args.depth - 1) v) (sym child) (reach_on p c.args.places.now c.as_str.result.now s can.1 c.if-depth-eq0.false))

pub sweep_names-loop-name-preserved : goal.sweep_names-loop-name-preserved
sweep_names-loop-name-preserved g t c =
    let tree = g.met.H.Host.is_tree in
    let p = c.args.path.now in
    let places = c.args.places.now in
    let items = c.as_slice-name-items.result.now in
    let child : c.in_ok-child.child ≡ c.name-item.result ∷ p = c.in_ok-child.ensures ∙ ap (λ (x : List ℕ). x ∷ p) c.as_str.ensures in
    let at = λ (v w : View) (s : Sweeps (IsWithin c.in_ok-child.child) places v w). subst (λ (r : Elements). Sweeps (IsWithin r) places v w) child s in
    record {
      sweeps = goes_on (tree c.loop-name.host) c.loop-name.invariant.sweeps c.sweep_within.ensures.any_moment
          (λ u v w t r q s. child_on p places items c.loop-name.name-index c.name-item.result c.loop-name-test.true c.name-item.is r (at v w s)) (λ u v w t r q s e. child_on p places items c.loop-name.name-index c.name-item.result c.loop-name-test.true c.name-item.is r (at v w e));
      swept = ends_on (ends_both (ends_goes (tree c.loop-name.host) c.sweep_within.ensures.any_moment) c.in_ok-sweep_within.ensures.on_success) c.loop-name.invariant.swept (tree c.loop-name.host)
          (λ u v w is q s. (q.0, swept_next p places items c.loop-name.name-index c.name-item.result c.loop-name-test.true c.name-item.is q.1 (at v w s.0) (subst (λ (r : Elements). HasNoStaleIn (IsWithin r) places w) child s.1)));
      reached = ends_on (ends_both (ends_goes (tree c.loop-name.host) c.sweep_within.ensures.any_moment) c.in_ok-sweep_within.ensures.reach) c.loop-name.invariant.reached (tree c.loop-name.host)
          (λ u v w is q s. (q.0, one_reached p c.args.depth items c.loop-name.name-index c.name-item.result c.loop-name-test.true c.name-item.is c.if-depth-eq0.false q.1 (subst (λ (r : Elements). Reaches r (c.args.depth - 1) v) child s.1) (names_swept (at v w s.0))));
      later = omega (arith, c.loop-name.invariant.later, c.sweep_within.ensures.fault_has_cause.later);
    }

pub sweep_names-returns-clause-on_success : goal.sweep_names-returns-clause-on_success
sweep_names-returns-clause-on_success g t c =
    let tree = g.met.H.Host.is_tree in
    let p = c.args.path.now in
    let items = c.as_slice-name-items.result.now in
    ends_in_tree (tree c.loop-name.host) (ends_both (ends_goes (tree c.args.host.now) c.loop-name.invariant.sweeps) c.loop-name.invariant.swept)
    (λ u w is q. all_swept is q.1.0 q.0 (subst (λ (l : List (List ℕ)). AreSwept p c.args.places.now l w) (take_all c.loop-name.name-index items c.loop-name-test.false) q.1.1))

pub sweep_names-returns-clause-reach : goal.sweep_names-returns-clause-reach
sweep_names-returns-clause-reach g t c =
    let p = c.args.path.now in
    let items = c.as_slice-name-items.result.now in
    ends_to (ends_both c.loop-name.invariant.swept c.loop-name.invariant.reached)
    (λ u w q. all_reached q.1.0 q.0.0 (subst (λ (l : List (List ℕ)). AreReached p c.args.depth l u w) (take_all c.loop-name.name-index items c.loop-name-test.false) q.1.1))

-- ---- a path

pub sweep_within-returns-in_err-stat-clause-any_moment : goal.sweep_within-returns-in_err-stat-clause-any_moment
sweep_within-returns-in_err-stat-clause-any_moment g t c = begins (g.met.H.Host.is_tree c.args.host.now) (makes_goes c.stat.ensures.step) (λ u w t s. sweeps_same s.same) (λ u w t s q. sweeps_same s.same)

pub sweep_within-returns-in-Absent-clause-any_moment : goal.sweep_within-returns-in-Absent-clause-any_moment
sweep_within-returns-in-Absent-clause-any_moment g t c = begins (g.met.H.Host.is_tree c.args.host.now) (makes_goes c.stat.ensures.step) (λ u w t s. sweeps_same s.same) (λ u w t s q. sweeps_same s.same)

pub sweep_within-returns-in-Absent-clause-on_success : goal.sweep_within-returns-in-Absent-clause-on_success
sweep_within-returns-in-Absent-clause-on_success g t c =
    let tree = g.met.H.Host.is_tree in
    let p = c.args.path.now in
    ends_in_tree (tree c.stat.new.self) (ends_call (tree c.args.host.now) c.in_ok-stat.ensures.step) (λ u w is s. absent_done is (ap (λ (x : View). x.names p) s.same ∙ stat_absent (subst (λ r. StatOf p (Ok r) u w) c.in-Absent.is s)))

pub sweep_within-returns-in-Absent-clause-reach : goal.sweep_within-returns-in-Absent-clause-reach
sweep_within-returns-in-Absent-clause-reach g t c =
    let tree = g.met.H.Host.is_tree in
    let p = c.args.path.now in
    ends_in_tree (tree c.stat.new.self) (ends_call (tree c.args.host.now) c.in_ok-stat.ensures.step) (λ u w is s. reaches_no_dir p c.args.depth (subst IsTree s.same is) (λ there. cc (there, stat_absent (subst (λ r. StatOf p (Ok r) u w) c.in-Absent.is s))))

pub sweep_within-returns-in-Dir-clause-any_moment : goal.sweep_within-returns-in-Dir-clause-any_moment
sweep_within-returns-in-Dir-clause-any_moment g t c =
    let tree = g.met.H.Host.is_tree in
    let p = c.args.path.now in
    let looked = begins {R' = Sweeps (IsWithin p) c.args.places.now} {Q' = λ u w. w ≡ u} (tree c.args.host.now) (makes_goes c.stat.ensures.step) (λ u w t s. sweeps_same s.same) (λ u w t s q. s.same) in
    goes_on (tree c.stat.new.self) looked c.sweep_names.ensures.any_moment (λ u v w t r q s. sweeps_to (λ x h. inr h) (from_same q s)) (λ u v w t r q s e. sweeps_to (λ x h. inr h) (from_same q e))

pub sweep_within-returns-in-Dir-clause-on_success : goal.sweep_within-returns-in-Dir-clause-on_success
sweep_within-returns-in-Dir-clause-on_success g t c =
    let tree = g.met.H.Host.is_tree in
    let p = c.args.path.now in
    on_ok_weaker c.sweep_names.result (λ done. ends_on (ends_both (ends_goes (tree c.stat.new.self) c.sweep_names.ensures.any_moment) done) (ends_call (tree c.args.host.now) c.in_ok-stat.ensures.step) (tree c.stat.new.self)
    (λ u v w is s q. folder_done s.same (stat_dir (subst (λ r. StatOf p (Ok r) u v) c.in-Dir.is s)) q.0 q.1)) c.sweep_names.ensures.on_success

pub sweep_within-returns-in-Dir-clause-reach : goal.sweep_within-returns-in-Dir-clause-reach
sweep_within-returns-in-Dir-clause-reach g t c =
    let tree = g.met.H.Host.is_tree in
    let p = c.args.path.now in
    on_ok_weaker c.sweep_names.result (λ done. ends_on {Q' = λ u w. Reaches p c.args.depth u} done (ends_call (tree c.args.host.now) c.in_ok-stat.ensures.step) (tree c.stat.new.self)
    (λ u v w is s q. subst (Reaches p c.args.depth) s.same q)) c.sweep_names.ensures.reach

pub sweep_within-returns-in-Dir-clause-fault_has_cause : goal.sweep_within-returns-in-Dir-clause-fault_has_cause
sweep_within-returns-in-Dir-clause-fault_has_cause g t c =
    let tree = g.met.H.Host.is_tree in
    let p = c.args.path.now in
    fault_caused (Reaches p c.args.depth) (λ v. (v.names p ≡ dir) × Reaches p c.args.depth v) _ _ _ _ _ (tree c.args.host.now) c.stat.ensures.fault_has_cause.later (ends_call (tree c.args.host.now) c.in_ok-stat.ensures.step) c.sweep_names.ensures.fault_has_cause (λ e. e)
    (λ u v is s can. (ap (λ (x : View). x.names p) s.same ∙ stat_dir (subst (λ r. StatOf p (Ok r) u v) c.in-Dir.is s), subst (Reaches p c.args.depth) (sym s.same) can))

pub sweep_within-returns-in_default : goal.sweep_within-returns-in_default
sweep_within-returns-in_default g t c =
    let tree = g.met.H.Host.is_tree in
    let p = c.args.path.now in
    let looked = begins {R' = Sweeps (IsWithin p) c.args.places.now} {Q' = StatOf p (Ok c.in_ok-stat.field-0)} (tree c.args.host.now) (makes_goes c.in_ok-stat.ensures.step) (λ u w t s. sweeps_same s.same) (λ u w t s q. q) in
    record {
      any_moment = goes_on (tree c.stat.new.self) looked c.sweep_path.ensures.any_moment (λ u v w t r q s. leaf_swept q.same (stat_leaf q c.in_default.not-Absent c.in_default.not-Dir) s) (λ u v w t r q s e. leaf_swept q.same (stat_leaf q c.in_default.not-Absent c.in_default.not-Dir) e);
      on_success = on_ok_weaker c.sweep_path.result (λ done. ends_in_tree (tree c.sweep_path.new.host) (ends_on {Q' = λ u w. IsTree w → HasNoStaleIn (IsWithin p) c.args.places.now w} (ends_both (ends_goes (tree c.stat.new.self) c.sweep_path.ensures.any_moment) done) (ends_call (tree c.args.host.now) c.in_ok-stat.ensures.step) (tree c.stat.new.self)
          (λ u v w is s q next. leaf_done next s.same (stat_leaf s c.in_default.not-Absent c.in_default.not-Dir) q.0 q.1)) (λ u w is q. q is)) c.sweep_path.ensures.on_success;
      reach = on_ok_weaker c.sweep_path.result (λ done. ends_on {Q' = λ u w. Reaches p c.args.depth u} done (ends_call (tree c.args.host.now) c.in_ok-stat.ensures.step) (tree c.stat.new.self)
          (λ u v w is s q. reaches_no_dir p c.args.depth (subst IsTree s.same is) (leaf_no_folder (u.names p) (stat_leaf s c.in_default.not-Absent c.in_default.not-Dir)))) c.sweep_path.ensures.on_success;
      fault_has_cause = fault_caused (Reaches p c.args.depth) (λ v. IsNoDir (v.names p)) _ _ _ _ _ (tree c.args.host.now) c.stat.ensures.fault_has_cause.later (ends_call (tree c.args.host.now) c.in_ok-stat.ensures.step) c.sweep_path.ensures.fault_has_cause (λ e. e)
          (λ u v is s can. subst (λ (x : View). IsNoDir (x.names p)) (sym s.same) (no_dir_leaf (u.names p) (stat_leaf s c.in_default.not-Absent c.in_default.not-Dir)));
    }
