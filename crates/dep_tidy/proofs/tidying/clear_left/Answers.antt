use Rattle.std.proofs.Common.{arith, subst, sym}
use Rattle.std.proofs.lemmas.Result.{on_ok_weaker}
use Rattle.fp_host.specs.View.{View, IsTree}
use Rattle.fp_host.specs.Frame.{Keeps, NoPath}
use Rattle.fp_host.proofs.Cause.{same_fault}
use Rattle.fp_host.proofs.Ending.{ends_on, ends_both, ends_frame, ends_goes, ends_start, ends_in_tree, fault_caused}
use Rattle.fp_small.specs.Places.{tmp}
use Rattle.fp_small.specs.Clear.{CanEmpty, IsEmptied, AbsentBelow}
use Rattle.dep_states.specs.Sound.{Opens}
use Rattle.dep_tidy.specs.Steps.{IsReady, CanTakeOld, UnkeptGone, UnkeptAbsent, OldAbsent, HasNoUnkept}
use Rattle.dep_tidy.proofs.Clearing.{can_empty, can_take_old}
use Rattle.dep_tidy.proofs.Joined.{going, going_on, steadily_work, steadily_folders, steadily_old, ready_on, Going}
use Rattle.dep_tidy.proofs.Ended.{cleared}
use Rattle.dep_tidy.proofs.Lasted.{lasts_on, lasts_frame}
use Rattle.dep_tidy.specs.Lasts.{Lasts}
use Rattle.dep_tidy.proofs.tidying.clear_left.Goals as goal

pub returns-in_err-empty_work-clause-any_moment : goal.returns-in_err-empty_work-clause-any_moment
returns-in_err-empty_work-clause-any_moment g c = going (g.met.H.Host.is_tree c.args.host.now) c.empty_work.ensures.frame.goes (λ u w tree k. steadily_work tree k) (λ u w tree k. steadily_work tree k)

pub returns-in_err-empty_work-clause-fault_has_cause : goal.returns-in_err-empty_work-clause-fault_has_cause
returns-in_err-empty_work-clause-fault_has_cause g c =
    let t = g.met.H.Host.is_tree in
    let s = c.args.state.now in
    fault_caused (IsReady s) (CanEmpty tmp) _ _ _ _ _ (t c.args.host.now) (omega arith) (ends_start (t c.args.host.now)) c.empty_work.ensures.fault_has_cause (same_fault _ _ _ c.in_err-empty_work.was c.from_residual.ensures.1)
    (λ u v tree same ready. subst (CanEmpty tmp) (sym same) (can_empty tree ready.opens tmp))

pub returns-in_err-clear_folders-clause-any_moment : goal.returns-in_err-clear_folders-clause-any_moment
returns-in_err-clear_folders-clause-any_moment g c =
    let t = g.met.H.Host.is_tree in
    going_on (t c.args.host.now) (t c.empty_work.new.host) (going (t c.args.host.now) c.empty_work.ensures.frame.goes (λ u w tree k. steadily_work tree k) (λ u w tree k. steadily_work tree k)) c.clear_folders.ensures.frame.goes (λ u w tree k. steadily_folders tree k) (λ u w tree k. steadily_folders tree k)

pub returns-in_err-clear_folders-clause-fault_has_cause : goal.returns-in_err-clear_folders-clause-fault_has_cause
returns-in_err-clear_folders-clause-fault_has_cause g c =
    let t = g.met.H.Host.is_tree in
    let s = c.args.state.now in
    let first = going {s = s} (t c.args.host.now) c.empty_work.ensures.frame.goes (λ u w tree k. steadily_work tree k) (λ u w tree k. steadily_work tree k) in
    fault_caused (IsReady s) (Opens s) _ _ _ _ _ (t c.args.host.now) c.empty_work.ensures.fault_has_cause.later (ends_goes (t c.args.host.now) first) c.clear_folders.ensures.fault_has_cause (same_fault _ _ _ c.in_err-clear_folders.was c.from_residual-in_err-clear_folders.ensures.1)
    (λ u v tree step ready. ready_on step ready)

pub returns : goal.returns
returns g c =
    let t = g.met.H.Host.is_tree in
    let s = c.args.state.now in
    let first = going {s = s} (t c.args.host.now) c.empty_work.ensures.frame.goes (λ u w tree k. steadily_work tree k) (λ u w tree k. steadily_work tree k) in
    let next = going_on (t c.args.host.now) (t c.empty_work.new.host) first c.clear_folders.ensures.frame.goes (λ u w tree k. steadily_folders tree k) (λ u w tree k. steadily_folders tree k) in
    let ends = ends_on {Q' = λ u w. (v : View) × IsEmptied tmp v × Keeps (UnkeptGone s) (UnkeptAbsent s) NoPath v w × HasNoUnkept s w}
    (ends_both (ends_frame (t c.empty_work.new.host) c.clear_folders.ensures.frame) c.in_ok-clear_folders.ensures.on_success) c.in_ok-empty_work.ensures.on_success (t c.empty_work.new.host) (λ u v w tree empty q. (v, empty, q.0, q.1)) in
    let shared = ends_on {Q' = Lasts} (ends_frame (t c.empty_work.new.host) c.clear_folders.ensures.frame) (ends_frame (t c.args.host.now) c.empty_work.ensures.frame) (t c.empty_work.new.host) (λ u v w tree first k. lasts_on (lasts_frame (AbsentBelow tmp) first (λ q id away. cc away.1)) (lasts_frame (UnkeptAbsent s) k (λ q id away. cc away.1))) in
    record {
      any_moment = going_on (t c.args.host.now) (t c.clear_folders.new.host) next c.take_old_files.ensures.any_moment (λ u w tree k. steadily_old tree k) (λ u w tree k. steadily_old tree k);
      on_success = on_ok_weaker c.take_old_files.result (λ done. ends_on (ends_both (ends_goes (t c.clear_folders.new.host) c.take_old_files.ensures.any_moment) done) ends (t c.clear_folders.new.host)
          (λ u v w tree q z. cleared q.1 q.2 q.3 z.0 z.1)) c.take_old_files.ensures.on_success;
      lasts = on_ok_weaker c.take_old_files.result (λ done. ends_on (ends_goes (t c.clear_folders.new.host) c.take_old_files.ensures.any_moment) shared (t c.clear_folders.new.host)
          (λ u v w tree q k. lasts_on q (lasts_frame OldAbsent k.keeps (λ p id away. cc away.1)))) c.take_old_files.ensures.on_success;
      fault_has_cause = fault_caused {Q = λ u v. IsTree v × Going s u v} (IsReady s) CanTakeOld _ _ _ _ _ (t c.args.host.now) (omega (arith, c.empty_work.ensures.fault_has_cause.later, c.clear_folders.ensures.fault_has_cause.later)) (ends_in_tree (t c.clear_folders.new.host) (ends_goes (t c.args.host.now) next) (λ u v tree q. (tree, q))) c.take_old_files.ensures.fault_has_cause (λ e. e)
          (λ u v tree q ready. can_take_old q.0 (ready_on q.1 ready));
    }
