use Rattle.std.proofs.Common.{subst, List, ℕ, Ok, Err, refl}
use Rattle.fp_host.specs.Moments.{Goes}
use Rattle.fl_words.specs.declared.command.Command.TheVariants.{Filter as Filtering}
use Rattle.fl_top.specs.Ends.{end_of_input}
use Rattle.fl_top.specs.Told.{told_start, files_at}
use Rattle.fl_top.specs.Moment.{RunsLook}
use Rattle.fl_top.specs.Return.{LookHasEnded}
use Rattle.fl_top.proofs.Finishing.{goes_none, input_failed, input_ends, run_input, run_fault, run_remote, drained_by, not_taken}
use Rattle.fl_top.proofs.Forwarding.{answers, by_source, source_input, source_answer, goes_told, goes_not_told}
use Rattle.fl_top.proofs.running.filter.Goals as goal

pub returns-in_err-bytes-clause-any_moment : goal.returns-in_err-bytes-clause-any_moment
returns-in_err-bytes-clause-any_moment g c = λ holds.
    let t = told_start (g.I.Source.left c.args.input.now) holds (g.H.Host.moments c.args.host.now) in
    let command = Filtering c.args.source.now in
    goes_none command t (end_of_input c.in_err-bytes.field-0.0) c.from_residual.result (g.met.H.Host.is_tree c.args.host.now) c.from_residual.ensures.1
    (input_ends command (by_source c.args.source.now) (source_input c.args.source.now) t (g.I.Source.faults c.args.input.now) (g.I.Source.faults c.read_input.new.input) c.in_err-bytes.field-0.0 c.in_err-bytes.ensures.stops)

pub returns-in_err-bytes-clause-input : goal.returns-in_err-bytes-clause-input
returns-in_err-bytes-clause-input g c =
    input_failed (g.I.Source.left c.args.input.now) (g.I.Source.faults c.args.input.now) (g.I.Source.faults c.read_input.new.input) c.in_err-bytes.field-0.0 c.from_residual.result (g.met.H.Host.is_tree c.args.host.now) c.from_residual.ensures.1 c.in_err-bytes.ensures.stops

pub returns-in_err-bytes-clause-taken : goal.returns-in_err-bytes-clause-taken
returns-in_err-bytes-clause-taken g c =
    not_taken c.in_err-bytes.field-0.0 c.from_residual.result (g.I.Source.left c.args.input.now) (g.I.Source.left c.read_input.new.input) (g.I.Source.faults c.args.input.now) (g.I.Source.faults c.read_input.new.input) c.from_residual.ensures.1 c.in_err-bytes.ensures.stops

pub returns-in_err-filter_bytes-clause-any_moment : goal.returns-in_err-filter_bytes-clause-any_moment
returns-in_err-filter_bytes-clause-any_moment g c = λ holds.
    let t = told_start (g.I.Source.left c.args.input.now) holds (g.H.Host.moments c.args.host.now) in
    let command = Filtering c.args.source.now in
    let e = c.in_err-filter_bytes.field-0.0 in
    let files = files_at (g.H.Host.moments c.args.host.now) in
    let by = answers files c.args.source.now c.in_ok-bytes.bytes in
    let m = g.H.Host.moments c.args.host.now in
    let n = g.H.Host.moments c.filter_bytes.new.host in
    goes_not_told command t by e c.from_residual-in_err-filter_bytes.result (g.met.H.Host.is_tree c.args.host.now) refl (source_answer c.args.source.now t c.in_ok-bytes.bytes c.in_ok-bytes.ensures.ok) c.from_residual-in_err-filter_bytes.ensures.1
    (subst (λ (l : List ℕ). Goes m n (RunsLook (answers files c.args.source.now l)) (LookHasEnded (answers files c.args.source.now l) (Err e))) c.as_slice.ensures c.in_err-filter_bytes.ensures.any_moment)

pub returns-in_err-filter_bytes-clause-fault_has_cause : goal.returns-in_err-filter_bytes-clause-fault_has_cause
returns-in_err-filter_bytes-clause-fault_has_cause g c = record {
  later = c.filter_bytes.ensures.fault_has_cause.later;
  fault = λ is. c.filter_bytes.ensures.fault_has_cause.fault (run_fault c.filter_bytes.result c.from_residual-in_err-filter_bytes.result c.in_err-filter_bytes.field-0.0 c.in_err-filter_bytes.was c.from_residual-in_err-filter_bytes.ensures.1 is);
}

pub returns-in_err-filter_bytes-clause-no_remote_fault : goal.returns-in_err-filter_bytes-clause-no_remote_fault
returns-in_err-filter_bytes-clause-no_remote_fault g c = λ is.
    c.filter_bytes.ensures.no_remote_fault (run_remote c.filter_bytes.result c.from_residual-in_err-filter_bytes.result c.in_err-filter_bytes.field-0.0 c.in_err-filter_bytes.was c.from_residual-in_err-filter_bytes.ensures.1 is)

pub returns-in_err-filter_bytes-clause-input : goal.returns-in_err-filter_bytes-clause-input
returns-in_err-filter_bytes-clause-input g c = λ is. absurd (run_input c.from_residual-in_err-filter_bytes.result c.in_err-filter_bytes.field-0.0 c.from_residual-in_err-filter_bytes.ensures.1 is)

pub returns-in_err-filter_bytes-clause-taken : goal.returns-in_err-filter_bytes-clause-taken
returns-in_err-filter_bytes-clause-taken g c = drained_by c.from_residual-in_err-filter_bytes.result (g.I.Source.left c.args.input.now) (g.I.Source.left c.read_input.new.input) c.in_ok-bytes.ensures.taken

pub returns-clause-any_moment : goal.returns-clause-any_moment
returns-clause-any_moment g c = λ holds.
    let t = told_start (g.I.Source.left c.args.input.now) holds (g.H.Host.moments c.args.host.now) in
    let command = Filtering c.args.source.now in
    let files = files_at (g.H.Host.moments c.args.host.now) in
    let by = answers files c.args.source.now c.in_ok-bytes.bytes in
    let m = g.H.Host.moments c.args.host.now in
    let n = g.H.Host.moments c.filter_bytes.new.host in
    goes_told command t by (g.met.H.Host.is_tree c.args.host.now) refl (source_answer c.args.source.now t c.in_ok-bytes.bytes c.in_ok-bytes.ensures.ok)
    (subst (λ (l : List ℕ). Goes m n (RunsLook (answers files c.args.source.now l)) (LookHasEnded (answers files c.args.source.now l) (Ok tt))) c.as_slice.ensures c.in_ok-filter_bytes.ensures.any_moment)

pub returns-clause-taken : goal.returns-clause-taken
returns-clause-taken g c = drained_by (Ok tt) (g.I.Source.left c.args.input.now) (g.I.Source.left c.read_input.new.input) c.in_ok-bytes.ensures.taken
