use Rattle.std.proofs.Common.{◌≡◌, Ok, sym, subst, ◌∙◌, ap}
use Rattle.std.proofs.lemmas.Result.{on_ok_weaker}
use Rattle.fp_host.specs.Paths.{Elements, absent}
use Rattle.fp_host.specs.Frame.{Frame, AtEnd, NoPath}
use Rattle.fp_host.proofs.Framed.{frame_start, frame_stat, frame_within}
use Rattle.fp_host.proofs.Ending.{ends_call, ends_on, ends_to, fault_caused}
use Rattle.fp_small.specs.Folders.{ancestors, FoldersAt, DirsAt, AreFree, AreDirs}
use Rattle.fp_host.specs.Reads.{StatOf}
use Rattle.fp_host.specs.declared.host.Stat.{Stat}
use Rattle.fp_small.proofs.Making.{stat_absent, stat_there}
use Rattle.ost_refs.specs.Places.{remotes}
use Rattle.ost_export.specs.Exports.{a_remote}
use Rattle.ost_export.proofs.Furnished.{remotes_among}
use Rattle.ost_export.proofs.furnishing.make_remotes.Goals as goal

pub returns-in_err-stat-clause-frame : goal.returns-in_err-stat-clause-frame
returns-in_err-stat-clause-frame g c = let t = g.met.H.Host.is_tree in frame_stat c.stat.ensures.step (frame_start (t c.args.host.now)) (t c.args.host.now)

pub returns-in-Absent-clause-frame : goal.returns-in-Absent-clause-frame
returns-in-Absent-clause-frame g c =
    let t = g.met.H.Host.is_tree in
    let frame = subst (λ (p : Elements). Frame (FoldersAt (ancestors p)) (DirsAt (ancestors p)) NoPath (g.H.Host.moments c.stat.new.self) (g.H.Host.moments c.make_above.new.host)) c.in_ok-folder.ensures.1 c.make_above.ensures.frame in
    frame_within frame (frame_stat c.stat.ensures.step (frame_start (t c.args.host.now)) (t c.args.host.now)) (t c.stat.new.self) (λ q spot h. h) (λ q e h. h) (λ q h. h) (λ q id h p. h)

pub returns-in-Absent-clause-on_success : goal.returns-in-Absent-clause-on_success
returns-in-Absent-clause-on_success g c =
    let t = g.met.H.Host.is_tree in
    let root = c.args.root.now in
    on_ok_weaker c.make_above.result
    (λ made. ends_on
    (subst (λ (p : Elements). AtEnd (λ u w. AreFree (ancestors p) u → AreDirs (ancestors p) w) (g.H.Host.moments c.stat.new.self) (g.H.Host.moments c.make_above.new.host)) c.in_ok-folder.ensures.1 made)
    (ends_call (t c.args.host.now) c.in_ok-stat.ensures.step) (t c.stat.new.self)
    (λ u v w tree stat dirs free none. (dirs (subst (AreFree (ancestors (a_remote root))) (sym stat.same) free)).dirs (remotes root) (remotes_among root))) c.make_above.ensures.on_success

pub returns-in-Absent-clause-fault_has_cause : goal.returns-in-Absent-clause-fault_has_cause
returns-in-Absent-clause-fault_has_cause g c =
    let t = g.met.H.Host.is_tree in
    let root = c.args.root.now in
    fault_caused (λ v. v.names (remotes root) ≡ absent → AreFree (ancestors (a_remote root)) v) (AreFree (ancestors c.in_ok-folder.below)) _ _ _ c.make_above.result c.make_above.result (t c.args.host.now) c.stat.ensures.fault_has_cause.later
    (ends_call (t c.args.host.now) c.in_ok-stat.ensures.step) c.make_above.ensures.fault_has_cause (λ e. e)
    (λ u v tree stat can. subst (λ (p : Elements). AreFree (ancestors p) v) (sym c.in_ok-folder.ensures.1) (subst (AreFree (ancestors (a_remote root))) (sym stat.same) (can (subst (λ (p : Elements). u.names p ≡ absent) c.in_ok-folder.ensures.0 (stat_absent (subst (λ (s : Stat). StatOf c.in_ok-folder.folder (Ok s) u v) c.in-Absent.is stat))))))

pub returns : goal.returns
returns g c =
    let t = g.met.H.Host.is_tree in
    record {
      frame = frame_stat c.stat.ensures.step (frame_start (t c.args.host.now)) (t c.args.host.now);
      on_success = ends_to (ends_call (t c.args.host.now) c.in_ok-stat.ensures.step) (λ u w stat free none. absurd (stat_there stat c.in_default.not-Absent (ap u.names c.in_ok-folder.ensures.0 ∙ none)));
      fault_has_cause = record { later = c.stat.ensures.fault_has_cause.later; fault = λ is. absurd (cc is) };
    }
