use Rattle.std.proofs.Common.{◌∙◌, ap, refl}
use Rattle.fp_host.proofs.Framed.{frame_start, frame_stat, frame_make_dir}
use Rattle.fp_host.proofs.Ending.{ends_call, ends_on, ends_to}
use Rattle.fp_host.specs.View.{View}
use Rattle.fp_small.proofs.Unsynced.{none_on, none_same, step_none}
use Rattle.fp_small.proofs.Making.{made_dir, stat_there, free_there}
use Rattle.fp_small.proofs.replacing.make_folder.Goals as goal

pub returns-in_err-stat-clause-frame : goal.returns-in_err-stat-clause-frame
returns-in_err-stat-clause-frame g c =
    let tree = g.met.H.Host.is_tree in
    frame_stat c.stat.ensures.step (frame_start (tree c.args.host.now)) (tree c.args.host.now)

pub returns-in_err-make_dir-in-Absent-clause-frame : goal.returns-in_err-make_dir-in-Absent-clause-frame
returns-in_err-make_dir-in-Absent-clause-frame g c =
    let tree = g.met.H.Host.is_tree in
    frame_make_dir c.make_dir.ensures.step (frame_stat c.stat.ensures.step (frame_start (tree c.args.host.now)) (tree c.args.host.now)) (tree c.stat.new.self) (refl, refl) (refl, refl)

pub returns-in_ok-make_dir-in-Absent-clause-frame : goal.returns-in_ok-make_dir-in-Absent-clause-frame
returns-in_ok-make_dir-in-Absent-clause-frame g c =
    let tree = g.met.H.Host.is_tree in
    frame_make_dir c.make_dir.ensures.step (frame_stat c.stat.ensures.step (frame_start (tree c.args.host.now)) (tree c.args.host.now)) (tree c.stat.new.self) (refl, refl) (refl, refl)

pub returns-in_ok-make_dir-in-Absent-clause-on_success : goal.returns-in_ok-make_dir-in-Absent-clause-on_success
returns-in_ok-make_dir-in-Absent-clause-on_success g c =
    let tree = g.met.H.Host.is_tree in
    ends_on (ends_call (tree c.stat.new.self) c.in_ok-make_dir-in-Absent.ensures.step) (ends_call (tree c.args.host.now) c.stat.ensures.step) (tree c.stat.new.self) (λ u v w t q step free. made_dir step)

pub returns-in_err-stat-clause-unsynced : goal.returns-in_err-stat-clause-unsynced
returns-in_err-stat-clause-unsynced g c =
    let tree = g.met.H.Host.is_tree in
    ends_to (ends_call (tree c.args.host.now) c.stat.ensures.step) (λ u w s. none_same s.same)

pub returns-in_err-make_dir-in-Absent-clause-unsynced : goal.returns-in_err-make_dir-in-Absent-clause-unsynced
returns-in_err-make_dir-in-Absent-clause-unsynced g c =
    let tree = g.met.H.Host.is_tree in
    ends_on (ends_call (tree c.stat.new.self) c.make_dir.ensures.step) (ends_call (tree c.args.host.now) c.stat.ensures.step) (tree c.stat.new.self) (λ u v w t q step. none_on (none_same q.same) (step_none tt step))

pub returns-in_ok-make_dir-in-Absent-clause-unsynced : goal.returns-in_ok-make_dir-in-Absent-clause-unsynced
returns-in_ok-make_dir-in-Absent-clause-unsynced g c =
    let tree = g.met.H.Host.is_tree in
    ends_on (ends_call (tree c.stat.new.self) c.make_dir.ensures.step) (ends_call (tree c.args.host.now) c.stat.ensures.step) (tree c.stat.new.self) (λ u v w t q step. none_on (none_same q.same) (step_none tt step))

pub returns-in_default : goal.returns-in_default
returns-in_default g c =
    let tree = g.met.H.Host.is_tree in
    record {
      frame = frame_stat c.stat.ensures.step (frame_start (tree c.args.host.now)) (tree c.args.host.now);
      on_success = ends_to (ends_call (tree c.args.host.now) c.in_ok-stat.ensures.step) (λ u w stat free. ap (λ (x : View). x.names c.args.path.now) stat.same ∙ free_there u c.args.path.now free (stat_there stat c.in_default.not-Absent));
      unsynced = ends_to (ends_call (tree c.args.host.now) c.stat.ensures.step) (λ u w s. none_same s.same);
      fault_has_cause = record { later = c.stat.ensures.fault_has_cause.later; fault = λ is. absurd (cc is) };
      needs_no_memory = λ is. cc is;
    }
