use Rattle.std.proofs.Common.{◌≡◌, ◌∙◌, List, Ok, Err, ap, subst}
use Rattle.dep_states.specs.Sound.{Opens}
use Rattle.ost_walk.specs.Ends.{outside}
use Rattle.fl_words.specs.declared.command.Change.{Change}
use Rattle.fl_gen.specs.Exercise.{exercise_changes}
use Rattle.fl_change.specs.Performs.{Acts}
use Rattle.fl_change.specs.Turns.{changing, MayDo}
use Rattle.fl_change.specs.declared.end.RunEnd.TheVariants.{NoMemory}
use Rattle.fl_change.specs.Current.{updates_all}
use Rattle.fl_change.proofs.Acting.{acts_err}
use Rattle.fl_change.proofs.Tidying.{settles_err}
use Rattle.fl_top.specs.Exercising.{end_answer, exercising}
use Rattle.fl_top.proofs.Lines.{acts_halted, acts_first, acts_second, settles_halted, settles_second}
use Rattle.fl_top.proofs.trials.make_exercise.Goals as goal

pub returns-in_err-changes-clause-acts : goal.returns-in_err-changes-clause-acts
returns-in_err-changes-clause-acts g c = acts_err c.from_residual.result NoMemory c.from_residual.ensures.1 (acts_halted (exercising c.args.apps.now) c.args.opened (g.met.H.Host.is_tree c.args.host.now))

pub returns-in_err-changes-clause-settles : goal.returns-in_err-changes-clause-settles
returns-in_err-changes-clause-settles g c = settles_halted (g.R.Remotes.holds c.args.remotes.now) c.args.opened c.from_residual.result c.from_residual.ensures.1 (g.met.H.Host.is_tree c.args.host.now)

pub returns-in_err-changed-clause-acts : goal.returns-in_err-changed-clause-acts
returns-in_err-changed-clause-acts g c =
    let n = c.args.apps.now in
    let u = outside (g.H.Host.moments c.args.host.now) (g.H.Host.faults c.args.host.now) (g.R.Remotes.holds c.args.remotes.now) (g.R.Remotes.faults c.args.remotes.now) in
    let v = outside (g.H.Host.moments c.change_all.new.host) (g.H.Host.faults c.change_all.new.host) (g.R.Remotes.holds c.change_all.new.remotes) (g.R.Remotes.faults c.change_all.new.remotes) in
    let e = c.in_err-changed.field-0.0 in
    let changes : c.as_slice.result.now ≡ exercise_changes n = c.as_slice.ensures ∙ c.in_ok-changes.ensures ∙ ap exercise_changes c.number.ensures.number in
    let acts = subst (λ (l : List Change). Acts (Opens c.args.opened) (MayDo l) (changing l) c.args.opened c.args.acted.now c.change_all.new.acted (Err e) u v) changes c.in_err-changed.ensures.acts in
    acts_err c.from_residual-in_err-changed.result e c.from_residual-in_err-changed.ensures.1 (acts_first (changing (exercise_changes n)) (end_answer n) c.args.opened e acts)

pub returns-in_err-changed-clause-settles : goal.returns-in_err-changed-clause-settles
returns-in_err-changed-clause-settles g c =
    let changes : c.as_slice.result.now ≡ exercise_changes c.args.apps.now = c.as_slice.ensures ∙ c.in_ok-changes.ensures ∙ ap exercise_changes c.number.ensures.number in
    settles_err (g.R.Remotes.holds c.args.remotes.now) c.args.opened c.from_residual-in_err-changed.result c.in_err-changed.field-0.0 c.from_residual-in_err-changed.ensures.1 (c.in_err-changed.ensures.settles (ap updates_all changes))

pub returns-clause-acts : goal.returns-clause-acts
returns-clause-acts g c =
    let n = c.args.apps.now in
    let u = outside (g.H.Host.moments c.args.host.now) (g.H.Host.faults c.args.host.now) (g.R.Remotes.holds c.args.remotes.now) (g.R.Remotes.faults c.args.remotes.now) in
    let v = outside (g.H.Host.moments c.change_all.new.host) (g.H.Host.faults c.change_all.new.host) (g.R.Remotes.holds c.change_all.new.remotes) (g.R.Remotes.faults c.change_all.new.remotes) in
    let changes : c.as_slice.result.now ≡ exercise_changes n = c.as_slice.ensures ∙ c.in_ok-changes.ensures ∙ ap exercise_changes c.number.ensures.number in
    let acts = subst (λ (l : List Change). Acts (Opens c.args.opened) (MayDo l) (changing l) c.args.opened c.args.acted.now c.change_all.new.acted (Ok c.in_ok-changed.changed) u v) changes c.in_ok-changed.ensures.acts in
    acts_second (changing (exercise_changes n)) (end_answer n) c.args.opened c.in_ok-changed.changed c.say_end.result (g.met.H.Host.is_tree c.change_all.new.host) acts (c.in_ok-changed.ensures.settles (ap updates_all changes)) (c.say_end.ensures.acts c.change_all.new.acted)

pub returns-clause-settles : goal.returns-clause-settles
returns-clause-settles g c =
    let n = c.args.apps.now in
    let u = outside (g.H.Host.moments c.args.host.now) (g.H.Host.faults c.args.host.now) (g.R.Remotes.holds c.args.remotes.now) (g.R.Remotes.faults c.args.remotes.now) in
    let v = outside (g.H.Host.moments c.change_all.new.host) (g.H.Host.faults c.change_all.new.host) (g.R.Remotes.holds c.change_all.new.remotes) (g.R.Remotes.faults c.change_all.new.remotes) in
    let changes : c.as_slice.result.now ≡ exercise_changes n = c.as_slice.ensures ∙ c.in_ok-changes.ensures ∙ ap exercise_changes c.number.ensures.number in
    let acts = subst (λ (l : List Change). Acts (Opens c.args.opened) (MayDo l) (changing l) c.args.opened c.args.acted.now c.change_all.new.acted (Ok c.in_ok-changed.changed) u v) changes c.in_ok-changed.ensures.acts in
    settles_second (changing (exercise_changes n)) (end_answer n) c.args.opened c.in_ok-changed.changed c.say_end.result (g.met.H.Host.is_tree c.change_all.new.host) acts (c.in_ok-changed.ensures.settles (ap updates_all changes)) (c.say_end.ensures.acts c.change_all.new.acted)
