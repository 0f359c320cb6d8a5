use Rattle.std.proofs.Common.{arith, refl, subst, sym}
use Rattle.std.proofs.lemmas.Result.{on_ok_weaker}
use Rattle.fp_host.specs.View.{IsTree}
use Rattle.fp_host.specs.Outcome.{shows}
use Rattle.fp_host.proofs.Cause.{same_fault}
use Rattle.fp_host.proofs.Goes.{begins, knowing, stays}
use Rattle.fp_host.proofs.Ending.{ends_on, ends_both, ends_frame, ends_goes, ends_in_tree, ends_start, fault_caused}
use Rattle.fp_small.specs.Places.{tmp}
use Rattle.fp_small.specs.Clear.{CanEmpty, AbsentBelow}
use Rattle.dep_states.specs.Sound.{Opens}
use Rattle.dep_states.specs.Settled.{Settled}
use Rattle.dep_tidy.specs.Lasts.{Lasts}
use Rattle.dep_tidy.specs.Tidy.{Tidies, SettledButWork, SettledButRef}
use Rattle.dep_tidy.proofs.Added.{tidies_row, all_but_work}
use Rattle.dep_tidy.proofs.Clearing.{can_empty}
use Rattle.dep_tidy.proofs.Joined.{tidies_same, tidies_work, tidies_going}
use Rattle.dep_tidy.proofs.Lasted.{lasts_on, lasts_frame}
use Rattle.dep_tidy.proofs.Small.{settled_work}
use Rattle.dep_tidy.proofs.tidying.settle_added.Goals as goal

pub returns-in_err-repo-clause-any_moment : goal.returns-in_err-repo-clause-any_moment
returns-in_err-repo-clause-any_moment g c = stays (g.met.H.Host.is_tree c.args.host.now) (λ u. tidies_same refl) (λ u t. tidies_same refl)

pub returns-in_err-write_file_of-clause-any_moment : goal.returns-in_err-write_file_of-clause-any_moment
returns-in_err-write_file_of-clause-any_moment g c =
    begins (g.met.H.Host.is_tree c.args.host.now) c.write_file_of.ensures.any_moment (λ u w tree k. tidies_row c.args.state.now c.args.name.now tree k) (λ u w tree k q. tidies_row c.args.state.now c.args.name.now tree q)

pub returns-in_err-write_file_of-clause-fault_has_cause : goal.returns-in_err-write_file_of-clause-fault_has_cause
returns-in_err-write_file_of-clause-fault_has_cause g c =
    let t = g.met.H.Host.is_tree in
    let s = c.args.state.now in
    fault_caused (Opens s) (Opens s) _ _ _ _ _ (t c.args.host.now) (omega arith) (ends_start (t c.args.host.now)) c.write_file_of.ensures.fault_has_cause (same_fault _ _ _ c.in_err-write_file_of.was c.from_residual-in_err-write_file_of.ensures.1)
    (λ u v tree same opens. subst (Opens s) (sym same) opens)

pub returns : goal.returns
returns g c =
    let t = g.met.H.Host.is_tree in
    let s = c.args.state.now in
    let name = c.args.name.now in
    let first = begins {R' = Tidies s} {Q' = Tidies s} (t c.args.host.now) c.write_file_of.ensures.any_moment (λ u w tree k. tidies_row s name tree k) (λ u w tree k q. tidies_row s name tree q) in
    let wrote = ends_in_tree {Q' = λ u v. IsTree u → Opens s u → SettledButRef name (shows u) → SettledButWork (shows v)} (t c.write_file_of.new.host)
    (ends_both (ends_goes (t c.args.host.now) c.write_file_of.ensures.any_moment) c.in_ok-write_file_of.ensures.on_success)
    (λ u v next q tree opens before. all_but_work s name tree next opens q.0.alters (q.1.files opens) before) in
    record {
      any_moment = tidies_going (t c.args.host.now) (t c.write_file_of.new.host) first c.empty_work.ensures.frame.goes (λ u w tree k. tidies_work tree k) (λ u w tree k. tidies_work tree k);
      on_success = on_ok_weaker c.empty_work.result (λ done.
          let emptied = ends_in_tree {Q' = λ v w. IsTree v → SettledButWork (shows v) → Settled (shows w)} (t c.empty_work.new.host) (ends_both (ends_frame (t c.write_file_of.new.host) c.empty_work.ensures.frame) done) (λ v w next q tree. settled_work tree next q.0 q.1) in
          let all = ends_on {Q' = λ u w. IsTree u → Opens s u → SettledButRef name (shows u) → Settled (shows w)} emptied wrote (t c.write_file_of.new.host) (λ u v w between q x tree opens before. x between (q tree opens before)) in
          record { goes = knowing {P = IsTree} {Q' = λ u w. Opens s u → SettledButRef name (shows u) → Settled (shows w)} (t c.args.host.now) all.goes (λ u w tree r. r) (λ u w tree q. q tree) }) c.empty_work.ensures.on_success;
      lasts = on_ok_weaker c.empty_work.result (λ done. ends_on {Q' = Lasts} (ends_frame (t c.write_file_of.new.host) c.empty_work.ensures.frame) c.in_ok-write_file_of.ensures.on_success (t c.write_file_of.new.host)
          (λ u v w tree q k. lasts_on q.lasts (lasts_frame (AbsentBelow tmp) k (λ p id away. cc away.1)))) c.empty_work.ensures.on_success;
      fault_has_cause = fault_caused {Q = λ u v. IsTree v × Tidies s u v} (Opens s) (CanEmpty tmp) _ _ _ _ _ (t c.args.host.now) (omega (arith, c.write_file_of.ensures.fault_has_cause.later)) (ends_in_tree (t c.write_file_of.new.host) (ends_goes (t c.args.host.now) first) (λ u v tree q. (tree, q))) c.empty_work.ensures.fault_has_cause (λ e. e)
          (λ u v tree q opens. can_empty q.0 (q.1.opens opens) tmp);
    }
