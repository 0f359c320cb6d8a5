use Rattle.std.proofs.Common.{◌≡◌, ◌∙◌, Option, Some, map, string_bytes, ap, refl, sym, subst}
use Rattle.fl_words.specs.Forms.{command_of}
use Rattle.fl_words.specs.Reading.{IsNoCommand}
use Rattle.fl_words.specs.declared.command.Command.{Command}
use Rattle.fl_words.specs.declared.command.Command.TheVariants.{Exercise as Exercising}
use Rattle.ost_walk.specs.Ends.{around}
use Rattle.fp_host.specs.Frame.{AtEnd}
use Rattle.fp_host.specs.Outcome.{shows}
use Rattle.fp_host.proofs.Ending.{ends_to}
use Rattle.fl_top.specs.Asked.{AsksFor, UpdatesFor}
use Rattle.fl_top.specs.Contract.{feed_of}
use Rattle.fl_top.specs.Fsck.{HasReport}
use Rattle.fl_top.specs.Status.{IsAnswered, IsOfWords}
use Rattle.fl_top.specs.Taken.{WasTaken}
use Rattle.fl_top.specs.Told.{Checks, IsChange}
use Rattle.fl_top.proofs.Asked.{not_asked}
use Rattle.fl_top.proofs.Contract.{is_status, no_command_line, unread_line}
use Rattle.fl_top.proofs.Exercises.{no_exercise, given_runs, given_cause, given_asks, given_told, exercised_runs, exercised_words, exercised_cause, exercised_found, exercised_input, exercised_taken}
use Rattle.fl_top.proofs.Refreshed.{step_as}
use Rattle.fl_top.proofs.running.run_gated.Goals as goal

-- ---- an exercise

pub returns-in-Ok-exercise_in : goal.returns-in-Ok-exercise_in
returns-in-Ok-exercise_in g c =
    let line = map string_bytes c.args.words.now in
    let apps = c.in-Ok-exercise_in.apps in
    let left = g.I.Source.left c.args.input.now in
    let holds = g.R.Remotes.holds c.args.remotes.now in
    let result = c.run_exercise.result in
    let is = c.in-Ok.ensures.ok ∙ ap (λ (k : Command). Some k) c.in-Ok-exercise_in.ensures.exercise in
    let ran = c.run_exercise.ensures in
    record {
      status = is_status (Some (Exercising apps)) result ran.status;
      words = exercised_words line apps left holds result is ran.status;
      runs = exercised_runs line apps left holds result is (g.met.H.Host.is_tree c.args.host.now) ran.runs;
      fault_has_cause = exercised_cause line apps left holds result is ran.fault_has_cause;
      found = exercised_found line apps left holds result is;
      exports = λ change done tells. ends_to (ran.exports holds done) (λ u w step sound. step_as (λ no. absurd no) (step sound));
      remotes = not_asked (AsksFor (command_of line) left) (result ≡ 4) holds (g.R.Remotes.faults c.args.remotes.now) ran.no_remote_fault;
      input = exercised_input line apps left holds result is ran.status;
      taken = exercised_taken line apps left holds result is ran.left;
      later = ran.later;
    }

-- ---- every other command

pub returns-in-Err : goal.returns-in-Err
returns-in-Err g c =
    let line = map string_bytes c.args.words.now in
    let command = c.in-Err.command in
    let left = g.I.Source.left c.args.input.now in
    let holds = g.R.Remotes.holds c.args.remotes.now in
    let result = c.run_command.result in
    let is = c.in-Ok.ensures.ok ∙ ap (λ (k : Command). Some k) (sym c.in-Err.ensures.other) in
    let none = no_exercise command c.in-Err.ensures.none in
    let ran = c.run_command.ensures in
    record {
      status = is_status (Some command) result ran.status;
      words = subst (λ (o : Option Command). IsOfWords o result) (sym is) ran.status;
      runs = given_runs line command left holds result is none (g.met.H.Host.is_tree c.args.host.now) ran.any_moment;
      fault_has_cause = given_cause line command left holds result is none ran.fault_has_cause;
      found = subst (λ (o : Option Command). Checks o → IsAnswered result → AtEnd (λ u w. HasReport (shows u)) (g.H.Host.moments c.args.host.now) (g.H.Host.moments c.run_command.new.host)) (sym is) ran.found;
      exports = λ change done tells.
          ends_to (ran.exports (subst IsChange is change) done (given_told line command left holds result is none tells))
          (λ u w step sound. step_as (λ by. subst (λ (o : Option Command). UpdatesFor o left) (sym is) by) (step sound));
      remotes = given_asks line command left holds result is none ran.remotes;
      input = ran.input.failed;
      taken = subst (λ (o : Option Command). WasTaken o result left (g.I.Source.left c.run_command.new.input)) (sym is) ran.input.taken;
      later = ran.input.later;
    }

-- ---- no command

pub returns-in-Err-BadWords : goal.returns-in-Err-BadWords
returns-in-Err-BadWords g c =
    let line = map string_bytes c.args.words.now in
    let bad : IsNoCommand line c.in-Err-BadWords.field-0 = c.in-Err-BadWords.ensures.bad in
    let is = subst (IsNoCommand line) c.in-Err-BadWords.field-0-is bad in
    let refused = c.refuse_words.ensures in
    no_command_line line c.in-Err-BadWords.index c.refuse_words.result (around g.H.Host g.R.Remotes c.args.host.now c.args.remotes.now) (around g.H.Host g.R.Remotes c.refuse_words.new.host c.args.remotes.now) (feed_of g.I.Source c.args.input.now) (g.met.H.Host.is_tree c.args.host.now) is.0 is.1 refused.status refused.any_moment refused.fault_has_cause refl refl

pub returns-in-Err-NoMemory : goal.returns-in-Err-NoMemory
returns-in-Err-NoMemory g c = unread_line (map string_bytes c.args.words.now) (around g.H.Host g.R.Remotes c.args.host.now c.args.remotes.now) (feed_of g.I.Source c.args.input.now) (g.met.H.Host.is_tree c.args.host.now)
