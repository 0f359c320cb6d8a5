use Rattle.std.proofs.lemmas.Result.{on_ok_weaker}
use Rattle.fp_host.proofs.Cause.{same_fault}
use Rattle.fp_host.proofs.Ending.{ends_on, ends_both, ends_frame, ends_goes, fault_caused}
use Rattle.dep_states.specs.Sound.{Opens}
use Rattle.dep_states.proofs.Law.{frame_law}
use Rattle.dep_tidy.specs.Steps.{IsReady, OtherAbsent}
use Rattle.dep_tidy.proofs.Clearing.{other_spares}
use Rattle.dep_tidy.proofs.Joined.{going, going_on, steadily_others, steadily_refs, ready_on}
use Rattle.dep_tidy.proofs.Ended.{refs_settled}
use Rattle.dep_tidy.proofs.Lasted.{lasts_on, lasts_frame}
use Rattle.dep_tidy.proofs.tidying.settle_refs.Goals as goal

pub returns-in_err-drop_others-clause-any_moment : goal.returns-in_err-drop_others-clause-any_moment
returns-in_err-drop_others-clause-any_moment g c = going (g.met.H.Host.is_tree c.args.host.now) c.drop_others.ensures.frame.goes (λ u w tree k. steadily_others tree k) (λ u w tree k. steadily_others tree k)

pub returns-in_err-drop_others-clause-fault_has_cause : goal.returns-in_err-drop_others-clause-fault_has_cause
returns-in_err-drop_others-clause-fault_has_cause g c = record {
  later = c.drop_others.ensures.fault_has_cause.later;
  fault = λ is m at ready. c.drop_others.ensures.fault_has_cause.fault (same_fault _ _ _ c.in_err-drop_others.was c.from_residual.ensures.1 is) m at ready.opens;
}

pub returns : goal.returns
returns g c =
    let t = g.met.H.Host.is_tree in
    let s = c.args.state.now in
    let first = going {s = s} (t c.args.host.now) c.drop_others.ensures.frame.goes (λ u w tree k. steadily_others tree k) (λ u w tree k. steadily_others tree k) in
    record {
      any_moment = going_on (t c.args.host.now) (t c.drop_others.new.host) first c.write_files.ensures.any_moment (λ u w tree k. steadily_refs k) (λ u w tree k. steadily_refs k);
      on_success = on_ok_weaker c.write_files.result (λ done. ends_on (ends_both (ends_goes (t c.drop_others.new.host) c.write_files.ensures.any_moment) done)
          (ends_both (ends_frame (t c.args.host.now) c.drop_others.ensures.frame) c.in_ok-drop_others.ensures.on_success) (t c.drop_others.new.host)
          (λ u v w tree q z was opens. refs_settled s z.0.alters q.0 q.1 z.1 (frame_law other_spares q.0.follows opens) was)) c.write_files.ensures.on_success;
      lasts = on_ok_weaker c.write_files.result (λ done. ends_on (ends_both (ends_goes (t c.drop_others.new.host) c.write_files.ensures.any_moment) done) (ends_frame (t c.args.host.now) c.drop_others.ensures.frame) (t c.drop_others.new.host)
          (λ u v w tree k z. lasts_on (lasts_frame (OtherAbsent s) k (λ q id away. cc away.1)) z.1.lasts)) c.write_files.ensures.on_success;
      fault_has_cause = fault_caused (IsReady s) (Opens s) _ _ _ _ _ (t c.args.host.now) c.drop_others.ensures.fault_has_cause.later (ends_goes (t c.args.host.now) first) c.write_files.ensures.fault_has_cause (λ e. e)
          (λ u v tree step ready. ready_on step ready);
    }
