use Rattle.std.proofs.Common.{◌≡◌, sym, subst, rules, arith, List, ℕ, Ok, Err}
use Rattle.fl_top.specs.Told.{told_start}
use Rattle.fl_top.specs.Answer.{shown_by}
use Rattle.fl_change.specs.Answer.{text_answer}
use Rattle.fl_words.specs.declared.command.Command.TheVariants.{Show as Showing}
use Rattle.fl_change.specs.Ends.{end_of_host}
use Rattle.fl_top.specs.Ends.{end_of_input, end_of_run, Prints}
use Rattle.fl_top.proofs.Finishing.{goes_none, input_failed, input_ends, run_input, drained_by, not_taken}
use Rattle.fl_top.proofs.ShowInput.{show_by, show_input, show_ends, no_fault, goes_shown, goes_not_shown, said_fault}
use Rattle.fl_top.proofs.running.show.Goals as goal

pub returns-in_err-given-clause-any_moment : goal.returns-in_err-given-clause-any_moment
returns-in_err-given-clause-any_moment g c = λ holds.
    let t = told_start (g.I.Source.left c.args.input.now) holds (g.H.Host.moments c.args.host.now) in
    goes_none (Showing c.args.thing.now) t (end_of_input c.in_err-given.field-0.0) c.from_residual.result (g.met.H.Host.is_tree c.args.host.now) c.from_residual.ensures.1 (input_ends (Showing c.args.thing.now) (show_by c.args.thing.now) (show_input c.args.thing.now) t (g.I.Source.faults c.args.input.now) (g.I.Source.faults c.read_input.new.input) c.in_err-given.field-0.0 c.in_err-given.ensures.stops)

pub returns-in_err-given-clause-input : goal.returns-in_err-given-clause-input
returns-in_err-given-clause-input g c = input_failed (g.I.Source.left c.args.input.now) (g.I.Source.faults c.args.input.now) (g.I.Source.faults c.read_input.new.input) c.in_err-given.field-0.0 c.from_residual.result (g.met.H.Host.is_tree c.args.host.now) c.from_residual.ensures.1 c.in_err-given.ensures.stops

pub returns-in_err-text-clause-any_moment : goal.returns-in_err-text-clause-any_moment
returns-in_err-text-clause-any_moment g c = λ holds.
    let t = told_start (g.I.Source.left c.args.input.now) holds (g.H.Host.moments c.args.host.now) in
    let e = c.in_err-text.field-0.0 in
    let shown : Prints (shown_by c.args.thing.now c.in_ok-given.given) (Err e) = subst (λ (b : List ℕ). Prints (shown_by c.args.thing.now b) (Err e)) c.as_slice.ensures c.in_err-text.ensures in
    goes_none (Showing c.args.thing.now) t (end_of_run e) c.from_residual-in_err-text.result (g.met.H.Host.is_tree c.args.host.now) c.from_residual-in_err-text.ensures.1 (show_ends c.args.thing.now t c.in_ok-given.given e c.in_ok-given.ensures.ok shown)

pub returns-in_err-text-clause-fault_has_cause : goal.returns-in_err-text-clause-fault_has_cause
returns-in_err-text-clause-fault_has_cause g c =
    let e = c.in_err-text.field-0.0 in
    record {
      later = omega arith;
      fault = λ is. absurd (no_fault c.args.thing.now c.as_slice.result.now e c.from_residual-in_err-text.result c.in_err-text.ensures c.from_residual-in_err-text.ensures.1 is);
    }

pub returns-in_err-text-clause-input : goal.returns-in_err-text-clause-input
returns-in_err-text-clause-input g c = λ is. absurd (run_input c.from_residual-in_err-text.result c.in_err-text.field-0.0 c.from_residual-in_err-text.ensures.1 is)

pub returns-in_err-say-clause-any_moment : goal.returns-in_err-say-clause-any_moment
returns-in_err-say-clause-any_moment g c = λ holds.
    let t = told_start (g.I.Source.left c.args.input.now) holds (g.H.Host.moments c.args.host.now) in
    let said : c.as_bytes.result.now ≡ c.in_ok-text.text = search rules in
    let shown : shown_by c.args.thing.now c.in_ok-given.given ≡ text_answer c.as_bytes.result.now = subst (λ (l : List ℕ). shown_by c.args.thing.now c.in_ok-given.given ≡ text_answer l) (sym said) (subst (λ (b : List ℕ). shown_by c.args.thing.now b ≡ text_answer c.in_ok-text.text) c.as_slice.ensures c.in_ok-text.ensures) in
    goes_not_shown c.args.thing.now t c.in_ok-given.given c.as_bytes.result.now c.say.result c.in_err-say.field-0.0 c.from_residual-in_err-say.result (g.met.H.Host.is_tree c.args.host.now) c.in_ok-given.ensures.ok shown c.in_err-say.was c.say.ensures.any_moment c.from_residual-in_err-say.ensures.1

pub returns-in_err-say-clause-fault_has_cause : goal.returns-in_err-say-clause-fault_has_cause
returns-in_err-say-clause-fault_has_cause g c = record {
  later = c.say.ensures.fault_has_cause.later;
  fault = λ is. c.say.ensures.fault_has_cause.fault (said_fault c.say.result c.from_residual-in_err-say.result c.in_err-say.field-0.0 c.in_err-say.was c.from_residual-in_err-say.ensures.1 is);
}

pub returns-in_err-say-clause-input : goal.returns-in_err-say-clause-input
returns-in_err-say-clause-input g c = λ is. absurd (run_input c.from_residual-in_err-say.result (end_of_host c.in_err-say.field-0.0) c.from_residual-in_err-say.ensures.1 is)

pub returns-clause-any_moment : goal.returns-clause-any_moment
returns-clause-any_moment g c = λ holds.
    let t = told_start (g.I.Source.left c.args.input.now) holds (g.H.Host.moments c.args.host.now) in
    let said : c.as_bytes.result.now ≡ c.in_ok-text.text = search rules in
    let shown : shown_by c.args.thing.now c.in_ok-given.given ≡ text_answer c.as_bytes.result.now = subst (λ (l : List ℕ). shown_by c.args.thing.now c.in_ok-given.given ≡ text_answer l) (sym said) (subst (λ (b : List ℕ). shown_by c.args.thing.now b ≡ text_answer c.in_ok-text.text) c.as_slice.ensures c.in_ok-text.ensures) in
    goes_shown c.args.thing.now t c.in_ok-given.given c.as_bytes.result.now (g.met.H.Host.is_tree c.args.host.now) c.in_ok-given.ensures.ok shown c.in_ok-say.ensures.any_moment

pub returns-in_err-given-clause-taken : goal.returns-in_err-given-clause-taken
returns-in_err-given-clause-taken g c = not_taken c.in_err-given.field-0.0 c.from_residual.result (g.I.Source.left c.args.input.now) (g.I.Source.left c.read_input.new.input) (g.I.Source.faults c.args.input.now) (g.I.Source.faults c.read_input.new.input) c.from_residual.ensures.1 c.in_err-given.ensures.stops

pub returns-in_err-text-clause-taken : goal.returns-in_err-text-clause-taken
returns-in_err-text-clause-taken g c = drained_by c.from_residual-in_err-text.result (g.I.Source.left c.args.input.now) (g.I.Source.left c.read_input.new.input) c.in_ok-given.ensures.taken

pub returns-in_err-say-clause-taken : goal.returns-in_err-say-clause-taken
returns-in_err-say-clause-taken g c = drained_by c.from_residual-in_err-say.result (g.I.Source.left c.args.input.now) (g.I.Source.left c.read_input.new.input) c.in_ok-given.ensures.taken

pub returns-clause-taken : goal.returns-clause-taken
returns-clause-taken g c = drained_by (Ok tt) (g.I.Source.left c.args.input.now) (g.I.Source.left c.read_input.new.input) c.in_ok-given.ensures.taken
