use Rattle.std.proofs.Common.{[], ◌∷◌, Some, Ok, IsErrOf, refl, sym, ap, subst}
use Rattle.std.specs.Prelude.{OnOk}
use Rattle.fp_host.specs.Causes.{IsCaused}
use Rattle.fp_host.specs.Frame.{AtEnd}
use Rattle.fp_host.specs.Moments.{Goes}
use Rattle.dep_states.specs.Sound.{IsSound}
use Rattle.fl_top.specs.Exports.{IsInStep}
use Rattle.fl_words.specs.declared.command.Command.{Command}
use Rattle.fl_words.specs.declared.command.Command.TheVariants.{Change as Changing, List as Listed, Show as Showing, Filter as Filtering, Batch, Fsck, Export as Exporting, Exercise as Exercising}
use Rattle.fl_top.specs.Asked.{OpsBy, AsksRemotes, UpdatesBy}
use Rattle.fl_change.specs.Performs.{AreToldFor}
use Rattle.fl_top.specs.Told.{told_start, files_at, HasCauses, IsFreeFor}
use Rattle.fl_top.specs.Moment.{RunsCommand}
use Rattle.fl_top.specs.Return.{CommandHasEnded, IsClosedBy}
use Rattle.fl_gen.specs.Exercise.{exercise_changes}
use Rattle.fl_change.specs.Turns.{changing, MayDo}
use Rattle.fl_top.specs.Exercising.{exercising}
use Rattle.fl_top.specs.Answer.{listing_answer}
use Rattle.fl_top.specs.Status.{checks_store}
use Rattle.fl_top.specs.Ends.{end_of_run}
use Rattle.fl_top.specs.declared.command_end.CommandEnd.TheVariants.{Fault, RemoteFault}
use Rattle.fl_top.proofs.Asked.{asks_more}
use Rattle.fl_top.proofs.Finishing.{goes_look, listing_look, goes_not_looked, change_changes, exercise_changing, goes_change, goes_not_changed, caused_change, run_fault, run_remote}
use Rattle.fp_host.proofs.Ending.{ends_goes, ends_to}
use Rattle.fl_top.proofs.Finishing.{given_by, is_end}
use Rattle.fl_top.proofs.Checked.{goes_check, goes_not_check, not_checks}
use Rattle.fl_top.proofs.Finishing.{not_changes}
use Rattle.fl_top.proofs.running.perform.Goals as goal

pub returns-in_err-make_changes-in-Change-clause-any_moment : goal.returns-in_err-make_changes-in-Change-clause-any_moment
returns-in_err-make_changes-in-Change-clause-any_moment g c =
    let t = told_start (g.I.Source.left c.args.input.now) (g.R.Remotes.holds c.args.remotes.now) (g.H.Host.moments c.args.host.now) in
    let a = g.H.Host.moments c.args.host.now in
    let b = g.H.Host.moments c.make_changes.new.host in
    let r = c.from_residual.result in
    subst (λ (k : Command). Goes a b (RunsCommand k t) (CommandHasEnded k t r)) (sym c.in-Change.is)
    (goes_not_changed (Changing c.in-Change.change) t (MayDo (c.in-Change.change ∷ [])) (changing (c.in-Change.change ∷ [])) c.in_err-make_changes-in-Change.field-0.0 r (g.met.H.Host.is_tree c.args.host.now) (change_changes t c.in-Change.change) c.in_err-make_changes-in-Change.ensures.any_moment c.from_residual.ensures.1)

pub returns-in_ok-make_changes-in-Change-clause-any_moment : goal.returns-in_ok-make_changes-in-Change-clause-any_moment
returns-in_ok-make_changes-in-Change-clause-any_moment g c =
    let t = told_start (g.I.Source.left c.args.input.now) (g.R.Remotes.holds c.args.remotes.now) (g.H.Host.moments c.args.host.now) in
    let a = g.H.Host.moments c.args.host.now in
    let b = g.H.Host.moments c.make_changes.new.host in
    subst (λ (k : Command). Goes a b (RunsCommand k t) (CommandHasEnded k t (Ok tt))) (sym c.in-Change.is)
    (goes_change (Changing c.in-Change.change) t (MayDo (c.in-Change.change ∷ [])) (changing (c.in-Change.change ∷ [])) (g.met.H.Host.is_tree c.args.host.now) (change_changes t c.in-Change.change) c.in_ok-make_changes-in-Change.ensures.any_moment)

pub returns-in_err-make_changes-in-Change-clause-fault_has_cause : goal.returns-in_err-make_changes-in-Change-clause-fault_has_cause
returns-in_err-make_changes-in-Change-clause-fault_has_cause g c =
    let left = g.I.Source.left c.args.input.now in
    let holds = g.R.Remotes.holds c.args.remotes.now in
    let r = c.from_residual.result in
    subst (λ (k : Command). IsCaused (AreToldFor (OpsBy k left) holds × IsErrOf r Fault) (g.H.Host.moments c.args.host.now) (HasCauses (Some k)) (g.H.Host.faults c.args.host.now) (g.H.Host.faults c.make_changes.new.host)) (sym c.in-Change.is)
    (caused_change (Changing c.in-Change.change) _ _ refl c.make_changes.ensures.fault_has_cause (λ is. (is.0, run_fault c.make_changes.result r c.in_err-make_changes-in-Change.field-0.0 c.in_err-make_changes-in-Change.was c.from_residual.ensures.1 is.1)))

pub returns-in_ok-make_changes-in-Change-clause-fault_has_cause : goal.returns-in_ok-make_changes-in-Change-clause-fault_has_cause
returns-in_ok-make_changes-in-Change-clause-fault_has_cause g c = record { later = c.make_changes.ensures.fault_has_cause.later; fault = λ is. absurd (cc is.1) }

pub returns-in_err-make_changes-in-Change-clause-remotes : goal.returns-in_err-make_changes-in-Change-clause-remotes
returns-in_err-make_changes-in-Change-clause-remotes g c =
    let left = g.I.Source.left c.args.input.now in
    let r = c.from_residual.result in
    subst (λ (k : Command). AsksRemotes (OpsBy k left) (IsErrOf r RemoteFault) (g.R.Remotes.holds c.args.remotes.now) (g.R.Remotes.holds c.make_changes.new.remotes) (g.R.Remotes.faults c.args.remotes.now) (g.R.Remotes.faults c.make_changes.new.remotes)) (sym c.in-Change.is)
    (asks_more (λ op may. may) (run_remote c.make_changes.result r c.in_err-make_changes-in-Change.field-0.0 c.in_err-make_changes-in-Change.was c.from_residual.ensures.1) c.make_changes.ensures.remotes)

pub returns-in_ok-make_changes-in-Change-clause-remotes : goal.returns-in_ok-make_changes-in-Change-clause-remotes
returns-in_ok-make_changes-in-Change-clause-remotes g c =
    let left = g.I.Source.left c.args.input.now in
    subst (λ (k : Command). AsksRemotes (OpsBy k left) (IsErrOf {T = Unit {0}} (Ok tt) RemoteFault) (g.R.Remotes.holds c.args.remotes.now) (g.R.Remotes.holds c.make_changes.new.remotes) (g.R.Remotes.faults c.args.remotes.now) (g.R.Remotes.faults c.make_changes.new.remotes)) (sym c.in-Change.is)
    (asks_more (λ op may. may) (λ is. absurd (cc is)) c.make_changes.ensures.remotes)

pub returns-in_err-list-in-List-clause-any_moment : goal.returns-in_err-list-in-List-clause-any_moment
returns-in_err-list-in-List-clause-any_moment g c =
    let t = told_start (g.I.Source.left c.args.input.now) (g.R.Remotes.holds c.args.remotes.now) (g.H.Host.moments c.args.host.now) in
    let a = g.H.Host.moments c.args.host.now in
    let b = g.H.Host.moments c.list.new.host in
    let r = c.from_residual-in_err-list-in-List.result in
    subst (λ (k : Command). Goes a b (RunsCommand k t) (CommandHasEnded k t r)) (sym c.in-List.is)
    (goes_not_looked (Listed c.in-List.listing) t (listing_answer (files_at a) c.in-List.listing) c.in_err-list-in-List.field-0.0 r (g.met.H.Host.is_tree c.args.host.now) refl (listing_look c.in-List.listing t) c.in_err-list-in-List.ensures.any_moment c.from_residual-in_err-list-in-List.ensures.1)

pub returns-in_ok-list-in-List-clause-any_moment : goal.returns-in_ok-list-in-List-clause-any_moment
returns-in_ok-list-in-List-clause-any_moment g c =
    let t = told_start (g.I.Source.left c.args.input.now) (g.R.Remotes.holds c.args.remotes.now) (g.H.Host.moments c.args.host.now) in
    let a = g.H.Host.moments c.args.host.now in
    let b = g.H.Host.moments c.list.new.host in
    subst (λ (k : Command). Goes a b (RunsCommand k t) (CommandHasEnded k t (Ok tt))) (sym c.in-List.is)
    (goes_look (Listed c.in-List.listing) t (listing_answer (files_at a) c.in-List.listing) (g.met.H.Host.is_tree c.args.host.now) refl (listing_look c.in-List.listing t) c.in_ok-list-in-List.ensures.any_moment)

pub returns-in-Batch-clause-fault_has_cause : goal.returns-in-Batch-clause-fault_has_cause
returns-in-Batch-clause-fault_has_cause g c =
    let left = g.I.Source.left c.args.input.now in
    let holds = g.R.Remotes.holds c.args.remotes.now in
    subst (λ (k : Command). IsCaused (AreToldFor (OpsBy k left) holds × IsErrOf c.batch.result Fault) (g.H.Host.moments c.args.host.now) (HasCauses (Some k)) (g.H.Host.faults c.args.host.now) (g.H.Host.faults c.batch.new.host)) (sym c.in-Batch.is)
    (caused_change Batch _ _ refl c.batch.ensures.fault_has_cause (λ is. is))

pub returns-in-Batch-clause-remotes : goal.returns-in-Batch-clause-remotes
returns-in-Batch-clause-remotes g c =
    let left = g.I.Source.left c.args.input.now in
    subst (λ (k : Command). AsksRemotes (OpsBy k left) (IsErrOf c.batch.result RemoteFault) (g.R.Remotes.holds c.args.remotes.now) (g.R.Remotes.holds c.batch.new.remotes) (g.R.Remotes.faults c.args.remotes.now) (g.R.Remotes.faults c.batch.new.remotes)) (sym c.in-Batch.is) c.batch.ensures.remotes

-- ---- the store is checked

pub returns-in_err-check-in-Fsck-clause-any_moment : goal.returns-in_err-check-in-Fsck-clause-any_moment
returns-in_err-check-in-Fsck-clause-any_moment g c =
    let t = told_start (g.I.Source.left c.args.input.now) (g.R.Remotes.holds c.args.remotes.now) (g.H.Host.moments c.args.host.now) in
    let a = g.H.Host.moments c.args.host.now in
    let b = g.H.Host.moments c.check.new.host in
    let r = c.from_residual-in_err-check-in-Fsck.result in
    subst (λ (k : Command). Goes a b (RunsCommand k t) (CommandHasEnded k t r)) (sym c.in-Fsck.is)
    (goes_not_check t c.in_err-check-in-Fsck.field-0.0 r refl c.in_err-check-in-Fsck.ensures.any_moment c.from_residual-in_err-check-in-Fsck.ensures.1)

pub returns-in_ok-check-in-Fsck-clause-any_moment : goal.returns-in_ok-check-in-Fsck-clause-any_moment
returns-in_ok-check-in-Fsck-clause-any_moment g c =
    let t = told_start (g.I.Source.left c.args.input.now) (g.R.Remotes.holds c.args.remotes.now) (g.H.Host.moments c.args.host.now) in
    let a = g.H.Host.moments c.args.host.now in
    let b = g.H.Host.moments c.check.new.host in
    subst (λ (k : Command). Goes a b (RunsCommand k t) (CommandHasEnded k t (Ok tt))) (sym c.in-Fsck.is) (goes_check t refl c.in_ok-check-in-Fsck.ensures.any_moment)

pub returns-in_err-check-in-Fsck-clause-fault_has_cause : goal.returns-in_err-check-in-Fsck-clause-fault_has_cause
returns-in_err-check-in-Fsck-clause-fault_has_cause g c =
    let r = c.from_residual-in_err-check-in-Fsck.result in
    let cause = c.check.ensures.fault_has_cause in
    record {
      later = cause.later;
      fault = λ is m at can. cause.fault (run_fault c.check.result r c.in_err-check-in-Fsck.field-0.0 c.in_err-check-in-Fsck.was c.from_residual-in_err-check-in-Fsck.ensures.1 is.1) m at (can.listable (ap checks_store c.in-Fsck.is));
    }

pub returns-in_ok-check-in-Fsck-clause-fault_has_cause : goal.returns-in_ok-check-in-Fsck-clause-fault_has_cause
returns-in_ok-check-in-Fsck-clause-fault_has_cause g c = record { later = c.check.ensures.fault_has_cause.later; fault = λ is. absurd (cc is.1) }

pub returns-in_err-check-in-Fsck-clause-found : goal.returns-in_err-check-in-Fsck-clause-found
returns-in_err-check-in-Fsck-clause-found g c checks by =
    let e = c.in_err-check-in-Fsck.field-0.0 in
    let r = c.from_residual-in_err-check-in-Fsck.result in
    ends_to (ends_goes (g.met.H.Host.is_tree c.args.host.now) c.in_err-check-in-Fsck.ensures.any_moment) (λ u w q. (q.given (given_by e (subst IsClosedBy (is_end r (end_of_run e) c.from_residual-in_err-check-in-Fsck.ensures.1) by))).found)

pub returns-in_ok-check-in-Fsck-clause-found : goal.returns-in_ok-check-in-Fsck-clause-found
returns-in_ok-check-in-Fsck-clause-found g c checks by = ends_to (ends_goes (g.met.H.Host.is_tree c.args.host.now) c.in_ok-check-in-Fsck.ensures.any_moment) (λ u w q. (q.given tt).found)

pub returns-in_err-make_changes-in-Change-clause-found : goal.returns-in_err-make_changes-in-Change-clause-found
returns-in_err-make_changes-in-Change-clause-found g c checks by = absurd (not_checks c.args.command (Changing c.in-Change.change) c.in-Change.is refl checks)

pub returns-in_ok-make_changes-in-Change-clause-found : goal.returns-in_ok-make_changes-in-Change-clause-found
returns-in_ok-make_changes-in-Change-clause-found g c checks by = absurd (not_checks c.args.command (Changing c.in-Change.change) c.in-Change.is refl checks)

pub returns-in_err-list-in-List-clause-found : goal.returns-in_err-list-in-List-clause-found
returns-in_err-list-in-List-clause-found g c checks by = absurd (not_checks c.args.command (Listed c.in-List.listing) c.in-List.is refl checks)

pub returns-in_ok-list-in-List-clause-found : goal.returns-in_ok-list-in-List-clause-found
returns-in_ok-list-in-List-clause-found g c checks by = absurd (not_checks c.args.command (Listed c.in-List.listing) c.in-List.is refl checks)

pub returns-in-Show-clause-found : goal.returns-in-Show-clause-found
returns-in-Show-clause-found g c checks by = absurd (not_checks c.args.command (Showing c.in-Show.thing) c.in-Show.is refl checks)

pub returns-in-Filter-clause-found : goal.returns-in-Filter-clause-found
returns-in-Filter-clause-found g c checks by = absurd (not_checks c.args.command (Filtering c.in-Filter.source) c.in-Filter.is refl checks)

pub returns-in-Batch-clause-found : goal.returns-in-Batch-clause-found
returns-in-Batch-clause-found g c checks by = absurd (not_checks c.args.command Batch c.in-Batch.is refl checks)

-- ---- what is exported

pub returns-in_ok-make_changes-in-Change-clause-exports : goal.returns-in_ok-make_changes-in-Change-clause-exports
returns-in_ok-make_changes-in-Change-clause-exports g c change =
    let left = g.I.Source.left c.args.input.now in
    let holds = g.R.Remotes.holds c.args.remotes.now in
    subst (λ (k : Command). AreToldFor (OpsBy k left) holds → AtEnd (λ u w. IsSound u → IsInStep (UpdatesBy k left) holds u w) (g.H.Host.moments c.args.host.now) (g.H.Host.moments c.make_changes.new.host)) (sym c.in-Change.is) c.in_ok-make_changes-in-Change.ensures.exports

pub returns-in_ok-list-in-List-clause-exports : goal.returns-in_ok-list-in-List-clause-exports
returns-in_ok-list-in-List-clause-exports g c change = absurd (not_changes c.args.command (Listed c.in-List.listing) c.in-List.is refl change)

pub returns-in-Show-clause-exports : goal.returns-in-Show-clause-exports
returns-in-Show-clause-exports g c change = absurd (not_changes c.args.command (Showing c.in-Show.thing) c.in-Show.is refl change)

pub returns-in-Filter-clause-exports : goal.returns-in-Filter-clause-exports
returns-in-Filter-clause-exports g c change = absurd (not_changes c.args.command (Filtering c.in-Filter.source) c.in-Filter.is refl change)

pub returns-in_ok-check-in-Fsck-clause-exports : goal.returns-in_ok-check-in-Fsck-clause-exports
returns-in_ok-check-in-Fsck-clause-exports g c change = absurd (not_changes c.args.command Fsck c.in-Fsck.is refl change)

pub returns-in-Batch-clause-exports : goal.returns-in-Batch-clause-exports
returns-in-Batch-clause-exports g c change =
    let left = g.I.Source.left c.args.input.now in
    let holds = g.R.Remotes.holds c.args.remotes.now in
    subst (λ (k : Command). OnOk c.batch.result (AreToldFor (OpsBy k left) holds → AtEnd (λ u w. IsSound u → IsInStep (UpdatesBy k left) holds u w) (g.H.Host.moments c.args.host.now) (g.H.Host.moments c.batch.new.host))) (sym c.in-Batch.is) c.batch.ensures.exports

-- ---- a remote is made

pub returns-in-Export-clause-any_moment : goal.returns-in-Export-clause-any_moment
returns-in-Export-clause-any_moment g c =
    let holds = g.R.Remotes.holds c.args.remotes.now in
    let t = told_start (g.I.Source.left c.args.input.now) holds (g.H.Host.moments c.args.host.now) in
    let a = g.H.Host.moments c.args.host.now in
    let b = g.H.Host.moments c.export.new.host in
    subst (λ (k : Command). Goes a b (RunsCommand k t) (CommandHasEnded k t c.export.result)) (sym c.in-Export.is) (c.export.ensures.any_moment holds)

pub returns-in-Export-clause-fault_has_cause : goal.returns-in-Export-clause-fault_has_cause
returns-in-Export-clause-fault_has_cause g c =
    let cause = c.export.ensures.fault_has_cause in
    record {
      later = cause.later;
      fault = λ is m at can. cause.fault is.1 m at (subst (λ (k : Command). IsFreeFor (Some k) m.now) c.in-Export.is can.free);
    }

pub returns-in-Export-clause-found : goal.returns-in-Export-clause-found
returns-in-Export-clause-found g c checks by = absurd (not_checks c.args.command (Exporting c.in-Export.remote c.in-Export.name) c.in-Export.is refl checks)

pub returns-in-Export-clause-exports : goal.returns-in-Export-clause-exports
returns-in-Export-clause-exports g c change = absurd (not_changes c.args.command (Exporting c.in-Export.remote c.in-Export.name) c.in-Export.is refl change)

-- ---- an exercise

pub returns-in_err-exercise-in-Exercise-clause-any_moment : goal.returns-in_err-exercise-in-Exercise-clause-any_moment
returns-in_err-exercise-in-Exercise-clause-any_moment g c =
    let t = told_start (g.I.Source.left c.args.input.now) (g.R.Remotes.holds c.args.remotes.now) (g.H.Host.moments c.args.host.now) in
    let a = g.H.Host.moments c.args.host.now in
    let b = g.H.Host.moments c.exercise.new.host in
    let r = c.from_residual-in_err-exercise-in-Exercise.result in
    let apps = c.in-Exercise.apps in
    subst (λ (k : Command). Goes a b (RunsCommand k t) (CommandHasEnded k t r)) (sym c.in-Exercise.is)
    (goes_not_changed (Exercising apps) t (MayDo (exercise_changes apps)) (exercising apps) c.in_err-exercise-in-Exercise.field-0.0 r (g.met.H.Host.is_tree c.args.host.now) (exercise_changing t apps) c.in_err-exercise-in-Exercise.ensures.any_moment c.from_residual-in_err-exercise-in-Exercise.ensures.1)

pub returns-in_ok-exercise-in-Exercise-clause-any_moment : goal.returns-in_ok-exercise-in-Exercise-clause-any_moment
returns-in_ok-exercise-in-Exercise-clause-any_moment g c =
    let t = told_start (g.I.Source.left c.args.input.now) (g.R.Remotes.holds c.args.remotes.now) (g.H.Host.moments c.args.host.now) in
    let a = g.H.Host.moments c.args.host.now in
    let b = g.H.Host.moments c.exercise.new.host in
    let apps = c.in-Exercise.apps in
    subst (λ (k : Command). Goes a b (RunsCommand k t) (CommandHasEnded k t (Ok tt))) (sym c.in-Exercise.is)
    (goes_change (Exercising apps) t (MayDo (exercise_changes apps)) (exercising apps) (g.met.H.Host.is_tree c.args.host.now) (exercise_changing t apps) c.in_ok-exercise-in-Exercise.ensures.any_moment)

pub returns-in_err-exercise-in-Exercise-clause-fault_has_cause : goal.returns-in_err-exercise-in-Exercise-clause-fault_has_cause
returns-in_err-exercise-in-Exercise-clause-fault_has_cause g c =
    let left = g.I.Source.left c.args.input.now in
    let holds = g.R.Remotes.holds c.args.remotes.now in
    let r = c.from_residual-in_err-exercise-in-Exercise.result in
    subst (λ (k : Command). IsCaused (AreToldFor (OpsBy k left) holds × IsErrOf r Fault) (g.H.Host.moments c.args.host.now) (HasCauses (Some k)) (g.H.Host.faults c.args.host.now) (g.H.Host.faults c.exercise.new.host)) (sym c.in-Exercise.is)
    (caused_change (Exercising c.in-Exercise.apps) _ _ refl c.exercise.ensures.fault_has_cause (λ is. (is.0, run_fault c.exercise.result r c.in_err-exercise-in-Exercise.field-0.0 c.in_err-exercise-in-Exercise.was c.from_residual-in_err-exercise-in-Exercise.ensures.1 is.1)))

pub returns-in_ok-exercise-in-Exercise-clause-fault_has_cause : goal.returns-in_ok-exercise-in-Exercise-clause-fault_has_cause
returns-in_ok-exercise-in-Exercise-clause-fault_has_cause g c = record { later = c.exercise.ensures.fault_has_cause.later; fault = λ is. absurd (cc is.1) }

pub returns-in_err-exercise-in-Exercise-clause-remotes : goal.returns-in_err-exercise-in-Exercise-clause-remotes
returns-in_err-exercise-in-Exercise-clause-remotes g c =
    let left = g.I.Source.left c.args.input.now in
    let r = c.from_residual-in_err-exercise-in-Exercise.result in
    subst (λ (k : Command). AsksRemotes (OpsBy k left) (IsErrOf r RemoteFault) (g.R.Remotes.holds c.args.remotes.now) (g.R.Remotes.holds c.exercise.new.remotes) (g.R.Remotes.faults c.args.remotes.now) (g.R.Remotes.faults c.exercise.new.remotes)) (sym c.in-Exercise.is)
    (asks_more (λ op may. may) (run_remote c.exercise.result r c.in_err-exercise-in-Exercise.field-0.0 c.in_err-exercise-in-Exercise.was c.from_residual-in_err-exercise-in-Exercise.ensures.1) c.exercise.ensures.remotes)

pub returns-in_ok-exercise-in-Exercise-clause-remotes : goal.returns-in_ok-exercise-in-Exercise-clause-remotes
returns-in_ok-exercise-in-Exercise-clause-remotes g c =
    let left = g.I.Source.left c.args.input.now in
    subst (λ (k : Command). AsksRemotes (OpsBy k left) (IsErrOf {T = Unit {0}} (Ok tt) RemoteFault) (g.R.Remotes.holds c.args.remotes.now) (g.R.Remotes.holds c.exercise.new.remotes) (g.R.Remotes.faults c.args.remotes.now) (g.R.Remotes.faults c.exercise.new.remotes)) (sym c.in-Exercise.is)
    (asks_more (λ op may. may) (λ is. absurd (cc is)) c.exercise.ensures.remotes)

pub returns-in_err-exercise-in-Exercise-clause-found : goal.returns-in_err-exercise-in-Exercise-clause-found
returns-in_err-exercise-in-Exercise-clause-found g c checks by = absurd (not_checks c.args.command (Exercising c.in-Exercise.apps) c.in-Exercise.is refl checks)

pub returns-in_ok-exercise-in-Exercise-clause-found : goal.returns-in_ok-exercise-in-Exercise-clause-found
returns-in_ok-exercise-in-Exercise-clause-found g c checks by = absurd (not_checks c.args.command (Exercising c.in-Exercise.apps) c.in-Exercise.is refl checks)

pub returns-in_ok-exercise-in-Exercise-clause-exports : goal.returns-in_ok-exercise-in-Exercise-clause-exports
returns-in_ok-exercise-in-Exercise-clause-exports g c change =
    let left = g.I.Source.left c.args.input.now in
    let holds = g.R.Remotes.holds c.args.remotes.now in
    subst (λ (k : Command). AreToldFor (OpsBy k left) holds → AtEnd (λ u w. IsSound u → IsInStep (UpdatesBy k left) holds u w) (g.H.Host.moments c.args.host.now) (g.H.Host.moments c.exercise.new.host)) (sym c.in-Exercise.is) c.in_ok-exercise-in-Exercise.ensures.exports
