use Rattle.std.proofs.Common.{◌≡◌, subst, List, ℕ, true, Ok, Err, IsErrOf}
use Rattle.fp_host.specs.Causes.{IsCaused}
use Rattle.fp_host.specs.Frame.{AtEnd}
use Rattle.fp_host.specs.Moments.{Goes}
use Rattle.fp_host.proofs.Ending.{ends_to}
use Rattle.dep_states.specs.Sound.{IsSound}
use Rattle.fl_top.specs.Exports.{IsInStep}
use Rattle.fl_words.specs.Batch.{IsBadBatch, batch_of}
use Rattle.fl_words.specs.declared.command.Change.{Change}
use Rattle.fl_words.specs.declared.command.Command.TheVariants.{Batch}
use Rattle.fl_change.specs.Current.{updates_all}
use Rattle.fl_change.specs.Turns.{changing, MayDo}
use Rattle.fl_change.specs.declared.end.RunEnd.TheVariants as run
use Rattle.fl_top.specs.Asked.{OpsBy, AsksRemotes}
use Rattle.fl_change.specs.Performs.{AreToldFor}
use Rattle.fl_top.specs.Told.{told_start, IsReady}
use Rattle.fl_top.specs.Moment.{RunsChanges}
use Rattle.fl_top.specs.Return.{ChangesHaveEnded}
use Rattle.fl_top.specs.Ends.{end_of_input, end_of_batch}
use Rattle.fl_top.specs.declared.command_end.CommandEnd.TheVariants.{RemoteFault}
use Rattle.fl_change.proofs.Working.{asks_to}
use Rattle.fl_top.proofs.Asked.{not_asked, asks_more}
use Rattle.fl_top.proofs.Finishing.{IsChanging, goes_none, input_failed, input_ends, batch_by, batch_input, batch_ends, batch_changes, goes_change, goes_not_changed, run_fault, run_remote, input_remote, batch_remote, drained_by, not_taken}
use Rattle.fl_top.proofs.Refreshed.{step_as}
use Rattle.fl_top.proofs.running.batch.Goals as goal

pub returns-in_err-bytes-clause-any_moment : goal.returns-in_err-bytes-clause-any_moment
returns-in_err-bytes-clause-any_moment g c =
    let t = told_start (g.I.Source.left c.args.input.now) (g.R.Remotes.holds c.args.remotes.now) (g.H.Host.moments c.args.host.now) in
    goes_none Batch t (end_of_input c.in_err-bytes.field-0.0) c.from_residual.result (g.met.H.Host.is_tree c.args.host.now) c.from_residual.ensures.1 (input_ends Batch batch_by batch_input t (g.I.Source.faults c.args.input.now) (g.I.Source.faults c.read_input.new.input) c.in_err-bytes.field-0.0 c.in_err-bytes.ensures.stops)

pub returns-in_err-bytes-clause-remotes : goal.returns-in_err-bytes-clause-remotes
returns-in_err-bytes-clause-remotes g c = not_asked (OpsBy Batch (g.I.Source.left c.args.input.now)) (IsErrOf c.from_residual.result RemoteFault) (g.R.Remotes.holds c.args.remotes.now) (g.R.Remotes.faults c.args.remotes.now) (input_remote c.from_residual.result c.in_err-bytes.field-0.0 c.from_residual.ensures.1)

pub returns-in_err-bytes-clause-input : goal.returns-in_err-bytes-clause-input
returns-in_err-bytes-clause-input g c = input_failed (g.I.Source.left c.args.input.now) (g.I.Source.faults c.args.input.now) (g.I.Source.faults c.read_input.new.input) c.in_err-bytes.field-0.0 c.from_residual.result (g.met.H.Host.is_tree c.args.host.now) c.from_residual.ensures.1 c.in_err-bytes.ensures.stops

pub returns-in_err-changes-clause-any_moment : goal.returns-in_err-changes-clause-any_moment
returns-in_err-changes-clause-any_moment g c =
    let t = told_start (g.I.Source.left c.args.input.now) (g.R.Remotes.holds c.args.remotes.now) (g.H.Host.moments c.args.host.now) in
    let bad : IsBadBatch c.in_ok-bytes.bytes c.in_err-changes.field-0.0 = subst (λ (b : List ℕ). IsBadBatch b c.in_err-changes.field-0.0) c.as_slice.ensures c.in_err-changes.ensures.bad in
    goes_none Batch t (end_of_batch c.in_err-changes.field-0.0) c.from_residual-in_err-changes.result (g.met.H.Host.is_tree c.args.host.now) c.from_residual-in_err-changes.ensures.1 (batch_ends t c.in_ok-bytes.bytes c.in_err-changes.field-0.0 c.in_ok-bytes.ensures.ok bad)

pub returns-in_err-changes-clause-remotes : goal.returns-in_err-changes-clause-remotes
returns-in_err-changes-clause-remotes g c = not_asked (OpsBy Batch (g.I.Source.left c.args.input.now)) (IsErrOf c.from_residual-in_err-changes.result RemoteFault) (g.R.Remotes.holds c.args.remotes.now) (g.R.Remotes.faults c.args.remotes.now) (batch_remote c.from_residual-in_err-changes.result c.in_err-changes.field-0.0 c.from_residual-in_err-changes.ensures.1)

pub returns-in_err-make_changes-clause-any_moment : goal.returns-in_err-make_changes-clause-any_moment
returns-in_err-make_changes-clause-any_moment g c =
    let holds = g.R.Remotes.holds c.args.remotes.now in
    let t = told_start (g.I.Source.left c.args.input.now) holds (g.H.Host.moments c.args.host.now) in
    let commands : c.as_slice-2.result.now ≡ c.in_ok-changes.changes = c.as_slice-2.ensures in
    let read : batch_of c.in_ok-bytes.bytes ≡ Ok c.in_ok-changes.changes = subst (λ (b : List ℕ). batch_of b ≡ Ok c.in_ok-changes.changes) c.as_slice.ensures c.in_ok-changes.ensures.ok in
    let changed = subst (λ (l : List Change). Goes (g.H.Host.moments c.args.host.now) (g.H.Host.moments c.make_changes.new.host) (RunsChanges holds (MayDo l) (changing l)) (ChangesHaveEnded holds (changing l) (Err c.in_err-make_changes.field-0.0))) commands c.in_err-make_changes.ensures.any_moment in
    goes_not_changed Batch t (MayDo c.in_ok-changes.changes) (changing c.in_ok-changes.changes) c.in_err-make_changes.field-0.0 c.from_residual-in_err-make_changes.result (g.met.H.Host.is_tree c.args.host.now) (batch_changes t c.in_ok-bytes.bytes c.in_ok-changes.changes c.in_ok-bytes.ensures.ok read) changed c.from_residual-in_err-make_changes.ensures.1

pub returns-in_err-make_changes-clause-fault_has_cause : goal.returns-in_err-make_changes-clause-fault_has_cause
returns-in_err-make_changes-clause-fault_has_cause g c =
    let holds = g.R.Remotes.holds c.args.remotes.now in
    let t = told_start (g.I.Source.left c.args.input.now) holds (g.H.Host.moments c.args.host.now) in
    let read : batch_of c.in_ok-bytes.bytes ≡ Ok c.in_ok-changes.changes = subst (λ (b : List ℕ). batch_of b ≡ Ok c.in_ok-changes.changes) c.as_slice.ensures c.in_ok-changes.ensures.ok in
    let known : IsChanging Batch t (MayDo c.in_ok-changes.changes) (changing c.in_ok-changes.changes) = batch_changes t c.in_ok-bytes.bytes c.in_ok-changes.changes c.in_ok-bytes.ensures.ok read in
    let cause = subst (λ (l : List Change). IsCaused (AreToldFor (MayDo l) holds × IsErrOf c.make_changes.result run.Fault) (g.H.Host.moments c.args.host.now) IsReady (g.H.Host.faults c.args.host.now) (g.H.Host.faults c.make_changes.new.host)) c.as_slice-2.ensures c.make_changes.ensures.fault_has_cause in
    record {
      later = cause.later;
      fault = λ is. cause.fault (λ asks. is.0 (asks_to known.may asks), run_fault c.make_changes.result c.from_residual-in_err-make_changes.result c.in_err-make_changes.field-0.0 c.in_err-make_changes.was c.from_residual-in_err-make_changes.ensures.1 is.1);
    }

pub returns-in_err-make_changes-clause-remotes : goal.returns-in_err-make_changes-clause-remotes
returns-in_err-make_changes-clause-remotes g c =
    let holds = g.R.Remotes.holds c.args.remotes.now in
    let t = told_start (g.I.Source.left c.args.input.now) holds (g.H.Host.moments c.args.host.now) in
    let read : batch_of c.in_ok-bytes.bytes ≡ Ok c.in_ok-changes.changes = subst (λ (b : List ℕ). batch_of b ≡ Ok c.in_ok-changes.changes) c.as_slice.ensures c.in_ok-changes.ensures.ok in
    let known : IsChanging Batch t (MayDo c.in_ok-changes.changes) (changing c.in_ok-changes.changes) = batch_changes t c.in_ok-bytes.bytes c.in_ok-changes.changes c.in_ok-bytes.ensures.ok read in
    let asks = subst (λ (l : List Change). AsksRemotes (MayDo l) (IsErrOf c.make_changes.result run.RemoteFault) holds (g.R.Remotes.holds c.make_changes.new.remotes) (g.R.Remotes.faults c.args.remotes.now) (g.R.Remotes.faults c.make_changes.new.remotes)) c.as_slice-2.ensures c.make_changes.ensures.remotes in
    asks_more known.may (run_remote c.make_changes.result c.from_residual-in_err-make_changes.result c.in_err-make_changes.field-0.0 c.in_err-make_changes.was c.from_residual-in_err-make_changes.ensures.1) asks

pub returns-clause-any_moment : goal.returns-clause-any_moment
returns-clause-any_moment g c =
    let holds = g.R.Remotes.holds c.args.remotes.now in
    let t = told_start (g.I.Source.left c.args.input.now) holds (g.H.Host.moments c.args.host.now) in
    let commands : c.as_slice-2.result.now ≡ c.in_ok-changes.changes = c.as_slice-2.ensures in
    let read : batch_of c.in_ok-bytes.bytes ≡ Ok c.in_ok-changes.changes = subst (λ (b : List ℕ). batch_of b ≡ Ok c.in_ok-changes.changes) c.as_slice.ensures c.in_ok-changes.ensures.ok in
    let changed = subst (λ (l : List Change). Goes (g.H.Host.moments c.args.host.now) (g.H.Host.moments c.make_changes.new.host) (RunsChanges holds (MayDo l) (changing l)) (ChangesHaveEnded holds (changing l) (Ok tt))) commands c.in_ok-make_changes.ensures.any_moment in
    goes_change Batch t (MayDo c.in_ok-changes.changes) (changing c.in_ok-changes.changes) (g.met.H.Host.is_tree c.args.host.now) (batch_changes t c.in_ok-bytes.bytes c.in_ok-changes.changes c.in_ok-bytes.ensures.ok read) changed

pub returns-clause-remotes : goal.returns-clause-remotes
returns-clause-remotes g c =
    let holds = g.R.Remotes.holds c.args.remotes.now in
    let t = told_start (g.I.Source.left c.args.input.now) holds (g.H.Host.moments c.args.host.now) in
    let read : batch_of c.in_ok-bytes.bytes ≡ Ok c.in_ok-changes.changes = subst (λ (b : List ℕ). batch_of b ≡ Ok c.in_ok-changes.changes) c.as_slice.ensures c.in_ok-changes.ensures.ok in
    let known : IsChanging Batch t (MayDo c.in_ok-changes.changes) (changing c.in_ok-changes.changes) = batch_changes t c.in_ok-bytes.bytes c.in_ok-changes.changes c.in_ok-bytes.ensures.ok read in
    let asks = subst (λ (l : List Change). AsksRemotes (MayDo l) (IsErrOf c.make_changes.result run.RemoteFault) holds (g.R.Remotes.holds c.make_changes.new.remotes) (g.R.Remotes.faults c.args.remotes.now) (g.R.Remotes.faults c.make_changes.new.remotes)) c.as_slice-2.ensures c.make_changes.ensures.remotes in
    asks_more known.may (λ is. absurd (cc is)) asks

pub returns-in_err-bytes-clause-taken : goal.returns-in_err-bytes-clause-taken
returns-in_err-bytes-clause-taken g c = not_taken c.in_err-bytes.field-0.0 c.from_residual.result (g.I.Source.left c.args.input.now) (g.I.Source.left c.read_input.new.input) (g.I.Source.faults c.args.input.now) (g.I.Source.faults c.read_input.new.input) c.from_residual.ensures.1 c.in_err-bytes.ensures.stops

pub returns-in_err-changes-clause-taken : goal.returns-in_err-changes-clause-taken
returns-in_err-changes-clause-taken g c = drained_by c.from_residual-in_err-changes.result (g.I.Source.left c.args.input.now) (g.I.Source.left c.read_input.new.input) c.in_ok-bytes.ensures.taken

pub returns-in_err-make_changes-clause-taken : goal.returns-in_err-make_changes-clause-taken
returns-in_err-make_changes-clause-taken g c = drained_by c.from_residual-in_err-make_changes.result (g.I.Source.left c.args.input.now) (g.I.Source.left c.read_input.new.input) c.in_ok-bytes.ensures.taken

pub returns-clause-taken : goal.returns-clause-taken
returns-clause-taken g c = drained_by (Ok tt) (g.I.Source.left c.args.input.now) (g.I.Source.left c.read_input.new.input) c.in_ok-bytes.ensures.taken

pub returns-clause-exports : goal.returns-clause-exports
returns-clause-exports g c tells =
    let holds = g.R.Remotes.holds c.args.remotes.now in
    let t = told_start (g.I.Source.left c.args.input.now) holds (g.H.Host.moments c.args.host.now) in
    let read : batch_of c.in_ok-bytes.bytes ≡ Ok c.in_ok-changes.changes = subst (λ (b : List ℕ). batch_of b ≡ Ok c.in_ok-changes.changes) c.as_slice.ensures c.in_ok-changes.ensures.ok in
    let known : IsChanging Batch t (MayDo c.in_ok-changes.changes) (changing c.in_ok-changes.changes) = batch_changes t c.in_ok-bytes.bytes c.in_ok-changes.changes c.in_ok-bytes.ensures.ok read in
    let stand = subst (λ (l : List Change). AreToldFor (MayDo l) holds → AtEnd (λ u w. IsSound u → IsInStep (updates_all l ≡ true) holds u w) (g.H.Host.moments c.args.host.now) (g.H.Host.moments c.make_changes.new.host)) c.as_slice-2.ensures c.in_ok-make_changes.ensures.exports in
    ends_to (stand (λ asks. tells (asks_to known.may asks))) (λ u w step sound. step_as (λ all. (c.in_ok-changes.changes, record { bytes = c.in_ok-bytes.bytes; whole = c.in_ok-bytes.ensures.ok; read = read }, all)) (step sound))
