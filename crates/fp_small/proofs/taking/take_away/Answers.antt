use Rattle.std.proofs.Common.{◌≡◌, refl, sym, subst}
use Rattle.fp_host.specs.Calls.{Can, IsNoDir, IsLeaf, unlinks}
use Rattle.fp_host.specs.View.{View}
use Rattle.fp_host.specs.Paths.{absent}
use Rattle.fp_host.proofs.Cause.{clash_step}
use Rattle.fp_host.proofs.Framed.{frame_start, frame_stat, frame_unlink}
use Rattle.fp_host.proofs.Ending.{ends_call, ends_on, ends_to, call_caused}
use Rattle.fp_small.proofs.Making.{stat_there, stat_gone}
use Rattle.fp_small.proofs.Emptying.{unlinked, leaf_there}
use Rattle.fp_small.proofs.taking.take_away.Goals as goal

pub returns-in_err-stat-clause-frame : goal.returns-in_err-stat-clause-frame
returns-in_err-stat-clause-frame g c = let t = g.met.H.Host.is_tree in frame_stat c.stat.ensures.step (frame_start (t c.args.host.now)) (t c.args.host.now)

pub returns-in-Absent-clause-frame : goal.returns-in-Absent-clause-frame
returns-in-Absent-clause-frame g c = let t = g.met.H.Host.is_tree in frame_stat c.stat.ensures.step (frame_start (t c.args.host.now)) (t c.args.host.now)

pub returns-in-Absent-clause-on_success : goal.returns-in-Absent-clause-on_success
returns-in-Absent-clause-on_success g c = let t = g.met.H.Host.is_tree in ends_to (ends_call (t c.args.host.now) c.in_ok-stat.ensures.step) (λ u w s. stat_gone c.in-Absent.is s)

pub returns-in_err-unlink-in_default-clause-frame : goal.returns-in_err-unlink-in_default-clause-frame
returns-in_err-unlink-in_default-clause-frame g c =
    let t = g.met.H.Host.is_tree in
    frame_unlink c.unlink.ensures.step (frame_stat c.stat.ensures.step (frame_start (t c.args.host.now)) (t c.args.host.now)) (t c.stat.new.self) (refl, refl) (refl, refl)

pub returns-in_err-unlink-in_default-clause-fault_has_cause : goal.returns-in_err-unlink-in_default-clause-fault_has_cause
returns-in_err-unlink-in_default-clause-fault_has_cause g c =
    let t = g.met.H.Host.is_tree in
    let p = c.args.path.now in
    let e = c.in_err-unlink-in_default.ensures in
    let seen = ends_to {Q' = λ u w. (w ≡ u) × (u.names p ≡ absent → ⊥)} (ends_call (t c.args.host.now) c.in_ok-stat.ensures.step) (λ u w s. (s.same, stat_there s c.in_default.not-Absent)) in
    call_caused (λ v. IsNoDir (v.names p)) (Can (unlinks p)) _ _ _ _ _ (t c.args.host.now) c.stat.ensures.fault_has_cause.later seen e.step e.fault_has_cause c.from_residual-in_err-unlink-in_default.ensures.1 (λ v w step. clash_step step)
    (λ u v is q no_dir. subst (λ (x : View). IsLeaf (x.names p)) (sym q.0) (leaf_there (u.names p) no_dir q.1))

pub returns-in_ok-unlink-in_default-clause-frame : goal.returns-in_ok-unlink-in_default-clause-frame
returns-in_ok-unlink-in_default-clause-frame g c =
    let t = g.met.H.Host.is_tree in
    frame_unlink c.unlink.ensures.step (frame_stat c.stat.ensures.step (frame_start (t c.args.host.now)) (t c.args.host.now)) (t c.stat.new.self) (refl, refl) (refl, refl)

pub returns-in_ok-unlink-in_default-clause-on_success : goal.returns-in_ok-unlink-in_default-clause-on_success
returns-in_ok-unlink-in_default-clause-on_success g c =
    let t = g.met.H.Host.is_tree in
    ends_on (ends_call (t c.stat.new.self) c.in_ok-unlink-in_default.ensures.step) (ends_call (t c.args.host.now) c.stat.ensures.step) (t c.stat.new.self) (λ u v w is q s. unlinked s)
