use Rattle.std.proofs.Common.{◌≡◌, ◌∙◌, ◌-◌, ℕ, length, Ok, ap, sym, subst}
use Rattle.std.proofs.lemmas.Result.{on_ok_weaker}
use Rattle.fp_host.specs.View.{View, IsTree}
use Rattle.fp_host.specs.Paths.{dir}
use Rattle.fp_host.specs.Reads.{StatOf}
use Rattle.fp_host.proofs.Framed.{frame_start, frame_stat, frame_within}
use Rattle.fp_host.proofs.Ending.{ends_call, ends_on, ends_to, ends_in_tree, fault_caused}
use Rattle.fp_small.specs.Clear.{CanEmpty, Reaches}
use Rattle.fp_small.proofs.Making.{stat_dir, stat_no_dir}
use Rattle.fp_small.proofs.Emptying.{reaches_most, reaches_no_dir, most_reached, emptied_no_dir}
use Rattle.fp_small.proofs.clearing.clear_below.Goals as goal

pub returns-in_err-stat-clause-frame : goal.returns-in_err-stat-clause-frame
returns-in_err-stat-clause-frame g c = let t = g.met.H.Host.is_tree in frame_stat c.stat.ensures.step (frame_start (t c.args.host.now)) (t c.args.host.now)

pub returns-in-Dir-clause-frame : goal.returns-in-Dir-clause-frame
returns-in-Dir-clause-frame g c =
    let t = g.met.H.Host.is_tree in
    frame_within c.clear_names.ensures.frame (frame_stat c.stat.ensures.step (frame_start (t c.args.host.now)) (t c.args.host.now)) (t c.stat.new.self) (λ q spot h. h) (λ q e h. h) (λ q h. h) (λ q id h put. h)

pub returns-in-Dir-clause-on_success : goal.returns-in-Dir-clause-on_success
returns-in-Dir-clause-on_success g c =
    let t = g.met.H.Host.is_tree in
    on_ok_weaker c.clear_names.result (λ done. ends_on done (ends_call (t c.args.host.now) c.stat.ensures.step) (t c.stat.new.self) (λ u v w tree q s. s)) c.clear_names.ensures.on_success

pub returns-in-Dir-clause-reach : goal.returns-in-Dir-clause-reach
returns-in-Dir-clause-reach g c =
    let t = g.met.H.Host.is_tree in
    let p = c.args.path.now in
    on_ok_weaker c.clear_names.result (λ reach. ends_on reach (ends_call (t c.args.host.now) c.stat.ensures.step) (t c.stat.new.self) (λ u v w tree q s. most_reached (subst (λ (n : ℕ). Reaches p n u) c.levels_below.ensures (subst (Reaches p c.levels_below.result) q.same s)))) c.clear_names.ensures.reach

pub returns-in-Dir-clause-fault_has_cause : goal.returns-in-Dir-clause-fault_has_cause
returns-in-Dir-clause-fault_has_cause g c =
    let t = g.met.H.Host.is_tree in
    let p = c.args.path.now in
    let seen = ends_to {Q' = λ u w. (w ≡ u) × (u.names p ≡ dir)} (ends_call (t c.args.host.now) c.in_ok-stat.ensures.step) (λ u w s. (s.same, stat_dir (subst (λ r. StatOf p (Ok r) u w) c.in-Dir.is s))) in
    fault_caused (CanEmpty p) (λ v. (v.names p ≡ dir) × Reaches p c.levels_below.result v) _ _ _ _ _ (t c.args.host.now) c.stat.ensures.fault_has_cause.later seen c.clear_names.ensures.fault_has_cause (λ e. e)
    (λ u v tree q can. (ap (λ (x : View). x.names p) q.0 ∙ q.1, subst (Reaches p c.levels_below.result) (sym q.0) (subst (λ (n : ℕ). Reaches p n u) (sym c.levels_below.ensures) (reaches_most can))))

pub returns-in_default : goal.returns-in_default
returns-in_default g c =
    let t = g.met.H.Host.is_tree in
    let p = c.args.path.now in
    record {
      frame = frame_stat c.stat.ensures.step (frame_start (t c.args.host.now)) (t c.args.host.now);
      on_success = ends_in_tree (t c.stat.new.self) (ends_call (t c.args.host.now) c.in_ok-stat.ensures.step) (λ u w tree s. emptied_no_dir tree (λ there. stat_no_dir s c.in_default.not-Dir (sym (ap (λ (x : View). x.names p) s.same) ∙ there)));
      reach = ends_in_tree (t c.stat.new.self) (ends_call (t c.args.host.now) c.in_ok-stat.ensures.step) (λ u w tree s. most_reached (reaches_no_dir p (128 - length p) (subst IsTree s.same tree) (λ there. stat_no_dir s c.in_default.not-Dir there)));
      fault_has_cause = record { later = c.stat.ensures.fault_has_cause.later; fault = λ is. absurd (cc is) };
    }
