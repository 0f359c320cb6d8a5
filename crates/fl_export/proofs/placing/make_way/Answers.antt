use Rattle.std.proofs.Common.{subst, sym}
use Rattle.std.proofs.lemmas.Result.{on_ok_weaker}
use Rattle.fp_host.proofs.Framed.{frame_start, frame_stat, frame_within}
use Rattle.fp_host.proofs.Ending.{ends_call, ends_on, ends_to, fault_caused}
use Rattle.fp_small.specs.Clear.{CanClear}
use Rattle.fl_export.proofs.Putting.{stays_free, cleared_free}
use Rattle.fl_export.proofs.placing.make_way.Goals as goal

pub returns-in_err-stat-clause-frame : goal.returns-in_err-stat-clause-frame
returns-in_err-stat-clause-frame g c = let t = g.met.H.Host.is_tree in frame_stat c.stat.ensures.step (frame_start (t c.args.host.now)) (t c.args.host.now)

pub returns-then-may_stay-clause-frame : goal.returns-then-may_stay-clause-frame
returns-then-may_stay-clause-frame g c = let t = g.met.H.Host.is_tree in frame_stat c.stat.ensures.step (frame_start (t c.args.host.now)) (t c.args.host.now)

pub returns-then-may_stay-clause-on_success : goal.returns-then-may_stay-clause-on_success
returns-then-may_stay-clause-on_success g c = ends_to (ends_call (g.met.H.Host.is_tree c.args.host.now) c.in_ok-stat.ensures.step) (λ u w s. stays_free (c.may_stay.ensures.0 c.if-may_stay.true) s)

pub returns-clause-frame : goal.returns-clause-frame
returns-clause-frame g c =
    let t = g.met.H.Host.is_tree in
    frame_within c.clear.ensures.frame (frame_stat c.stat.ensures.step (frame_start (t c.args.host.now)) (t c.args.host.now)) (t c.stat.new.self) (λ q spot h. h) (λ q e h. h) (λ q h. h) (λ q id h put. h)

pub returns-clause-on_success : goal.returns-clause-on_success
returns-clause-on_success g c =
    let t = g.met.H.Host.is_tree in
    on_ok_weaker c.clear.result (λ done. ends_on done (ends_call (t c.args.host.now) c.stat.ensures.step) (t c.stat.new.self) (λ u v w tree s q. cleared_free q)) c.clear.ensures.on_success

pub returns-clause-fault_has_cause : goal.returns-clause-fault_has_cause
returns-clause-fault_has_cause g c =
    let t = g.met.H.Host.is_tree in
    fault_caused (CanClear c.args.place.now) (CanClear c.args.place.now) _ _ _ _ _ (t c.args.host.now) c.stat.ensures.fault_has_cause.later (ends_call (t c.args.host.now) c.stat.ensures.step) c.clear.ensures.fault_has_cause (λ e. e)
    (λ u v tree s can. subst (CanClear c.args.place.now) (sym s.same) can)
