use Rattle.std.proofs.Common.{◌≡◌, ◌∙◌, ap, arith, sym, subst}
use Rattle.std.proofs.lemmas.Result.{on_ok_weaker}
use Rattle.fp_host.specs.Paths.{absent}
use Rattle.fp_host.specs.View.{View}
use Rattle.fp_host.specs.Calls.{IsNoDir}
use Rattle.fp_host.specs.Frame.{NoPath}
use Rattle.fp_host.proofs.Cause.{same_fault}
use Rattle.fp_host.proofs.Framed.{frame_start, frame_stat, frame_within}
use Rattle.fp_host.proofs.Goes.{begins, makes_goes, knowing}
use Rattle.fp_host.proofs.Ending.{ends_call, ends_on, ends_to, ends_both, ends_frame, fault_caused, ends_err}
use Rattle.fp_small.proofs.Making.{stat_gone}
use Rattle.dep_states.specs.Names.{config}
use Rattle.dep_states.specs.Sound.{is_remotes, is_pins, OldGone}
use Rattle.dep_tidy.specs.Steps.{OldAbsent, CanTakeOld}
use Rattle.dep_tidy.proofs.OldFiles.{takes_none, takes_some, there_known, still_absent, still_no_dir}
use Rattle.dep_tidy.proofs.old_files.take_old_files.Goals as goal

pub returns-in_err-stat-clause-any_moment : goal.returns-in_err-stat-clause-any_moment
returns-in_err-stat-clause-any_moment g c = begins (g.met.H.Host.is_tree c.args.host.now) (makes_goes c.stat.ensures.step) (λ u w tree s. takes_none s.same) (λ u w tree s e. takes_none e.same)

pub returns-in-Absent-clause-any_moment : goal.returns-in-Absent-clause-any_moment
returns-in-Absent-clause-any_moment g c = begins (g.met.H.Host.is_tree c.args.host.now) (makes_goes c.stat.ensures.step) (λ u w tree s. takes_none s.same) (λ u w tree s e. takes_none e.same)

pub returns-in-Absent-clause-on_success : goal.returns-in-Absent-clause-on_success
returns-in-Absent-clause-on_success g c =
    let at : c.in_ok-config.config ≡ config = c.in_ok-config.ensures in
    ends_to (ends_call (g.met.H.Host.is_tree c.args.host.now) c.in_ok-stat.ensures.step) (λ u w s. record { old = λ some. absurd (some (sym (ap w.names at) ∙ stat_gone c.in-Absent.is s)) })

pub returns-in_err-take_away-in_default : goal.returns-in_err-take_away-in_default
returns-in_err-take_away-in_default g c =
    let t = g.met.H.Host.is_tree in
    let p = c.in_ok-remotes.remotes in
    let frame = frame_within {G = OldGone} {W = OldAbsent} {A = NoPath} c.take_away.ensures.frame (frame_stat c.stat.ensures.step (frame_start (t c.args.host.now)) (t c.args.host.now)) (t c.stat.new.self)
    (λ q spot h. (is_remotes (h.0 ∙ c.in_ok-remotes.ensures), h.1)) (λ q e h. (is_remotes (h.0 ∙ c.in_ok-remotes.ensures), h.1)) (λ q h. h) (λ q id h put. h) in
    record {
      any_moment = knowing {P = λ v. v.names config ≡ absent → ⊥} (there_known c.in_ok-config.ensures c.in_ok-stat.ensures.step c.in_default.not-Absent) frame.goes (λ u w there k. takes_some there k) (λ u w there k. takes_some there k);
      on_success = ends_err _ _ c.from_residual-in_err-take_away-in_default.ensures.0;
      fault_has_cause = fault_caused CanTakeOld (λ v. IsNoDir (v.names p)) _ _ _ _ _ (t c.args.host.now) c.stat.ensures.fault_has_cause.later (ends_call (t c.args.host.now) c.stat.ensures.step) c.take_away.ensures.fault_has_cause (same_fault _ _ _ c.in_err-take_away-in_default.was c.from_residual-in_err-take_away-in_default.ensures.1)
          (λ u v tree q can. subst (λ (x : View). IsNoDir (x.names p)) (sym q.same) (subst (λ r. IsNoDir (u.names r)) (sym c.in_ok-remotes.ensures) can.remotes));
    }

pub returns : goal.returns
returns g c =
    let t = g.met.H.Host.is_tree in
    let r = c.in_ok-remotes.remotes in
    let p = c.in_ok-pins.pins in
    let first = frame_within {G = OldGone} {W = OldAbsent} {A = NoPath} c.take_away.ensures.frame (frame_stat c.stat.ensures.step (frame_start (t c.args.host.now)) (t c.args.host.now)) (t c.stat.new.self)
    (λ q spot h. (is_remotes (h.0 ∙ c.in_ok-remotes.ensures), h.1)) (λ q e h. (is_remotes (h.0 ∙ c.in_ok-remotes.ensures), h.1)) (λ q h. h) (λ q id h put. h) in
    let frame = frame_within {G = OldGone} {W = OldAbsent} {A = NoPath} c.take_away-in_default.ensures.frame first (t c.take_away.new.host) (λ q spot h. (is_pins (h.0 ∙ c.in_ok-pins.ensures), h.1)) (λ q e h. (is_pins (h.0 ∙ c.in_ok-pins.ensures), h.1)) (λ q h. h) (λ q id h put. h) in
    let gone = ends_on c.in_ok-take_away-in_default.ensures.on_success (ends_call (t c.args.host.now) c.stat.ensures.step) (t c.stat.new.self) (λ u v w tree q s. s) in
    record {
      any_moment = knowing {P = λ v. v.names config ≡ absent → ⊥} (there_known c.in_ok-config.ensures c.in_ok-stat.ensures.step c.in_default.not-Absent) frame.goes (λ u w there k. takes_some there k) (λ u w there k. takes_some there k);
      on_success = on_ok_weaker c.take_away-in_default.result
          (λ done. ends_on (ends_both (ends_frame (t c.take_away.new.host) c.take_away-in_default.ensures.frame) done) gone (t c.take_away.new.host)
          (λ u v w tree none q. record { old = λ some. (sym (ap w.names c.in_ok-remotes.ensures) ∙ still_absent none q.0, sym (ap w.names c.in_ok-pins.ensures) ∙ q.1) }))
          c.take_away-in_default.ensures.on_success;
      fault_has_cause = fault_caused CanTakeOld (λ v. IsNoDir (v.names p)) _ _ _ _ _ (t c.args.host.now) (omega (arith, c.stat.ensures.fault_has_cause.later, c.take_away.ensures.fault_has_cause.later)) (ends_frame (t c.args.host.now) first) c.take_away-in_default.ensures.fault_has_cause (λ e. e)
          (λ u v tree keeps can. subst (λ q. IsNoDir (v.names q)) (sym c.in_ok-pins.ensures) (still_no_dir _ (λ e put. put.1) can.pins keeps));
    }
