use Rattle.std.proofs.Common.{◌≡◌, ◌∙◌, ℕ, List, Ok, Err, arith, ap, subst, rules}
use Rattle.fp_host.specs.Frame.{AtEnd}
use Rattle.fp_host.specs.Moments.{Always, Goes}
use Rattle.fl_words.specs.declared.command.Command.TheVariants.{Export as Exporting}
use Rattle.fl_change.specs.Ends.{end_of_host}
use Rattle.fl_change.specs.Says.{Says, SaidBy}
use Rattle.fl_make.specs.Making.{Makes, WasMade, IsMakeFault}
use Rattle.fl_make.specs.declared.end.MakeEnd.{MakeEnd}
use Rattle.fl_top.specs.Ends.{end_of_input}
use Rattle.fl_top.specs.Told.{told_start}
use Rattle.fl_top.proofs.Finishing.{goes_none, input_ends, input_failed, input_remote, run_input, drained_by, not_taken, caused_after}
use Rattle.fl_top.proofs.ShowInput.{said_fault, said_remote}
use Rattle.fl_top.proofs.Making.{made_in, make_input, goes_not_made, goes_made, goes_not_said, make_fault, make_remote_fault, make_input_fault}
use Rattle.fl_top.proofs.exporting.export.Goals as goal

-- ---- the input wasn't read

pub returns-in_err-given-clause-any_moment : goal.returns-in_err-given-clause-any_moment
returns-in_err-given-clause-any_moment g c = λ holds.
    let t = told_start (g.I.Source.left c.args.input.now) holds (g.H.Host.moments c.args.host.now) in
    goes_none (Exporting c.args.remote.now c.args.name.now) t (end_of_input c.in_err-given.field-0.0) c.from_residual.result (g.met.H.Host.is_tree c.args.host.now) c.from_residual.ensures.1
    (input_ends (Exporting c.args.remote.now c.args.name.now) made_in (make_input c.args.remote.now c.args.name.now) t (g.I.Source.faults c.args.input.now) (g.I.Source.faults c.read_input.new.input) c.in_err-given.field-0.0 c.in_err-given.ensures.stops)

pub returns-in_err-given-clause-no_remote_fault : goal.returns-in_err-given-clause-no_remote_fault
returns-in_err-given-clause-no_remote_fault g c = λ is. input_remote c.from_residual.result c.in_err-given.field-0.0 c.from_residual.ensures.1 is

pub returns-in_err-given-clause-input : goal.returns-in_err-given-clause-input
returns-in_err-given-clause-input g c = input_failed (g.I.Source.left c.args.input.now) (g.I.Source.faults c.args.input.now) (g.I.Source.faults c.read_input.new.input) c.in_err-given.field-0.0 c.from_residual.result (g.met.H.Host.is_tree c.args.host.now) c.from_residual.ensures.1 c.in_err-given.ensures.stops

pub returns-in_err-given-clause-taken : goal.returns-in_err-given-clause-taken
returns-in_err-given-clause-taken g c = not_taken c.in_err-given.field-0.0 c.from_residual.result (g.I.Source.left c.args.input.now) (g.I.Source.left c.read_input.new.input) (g.I.Source.faults c.args.input.now) (g.I.Source.faults c.read_input.new.input) c.from_residual.ensures.1 c.in_err-given.ensures.stops

-- ---- no remote was made

pub returns-in_err-line-clause-any_moment : goal.returns-in_err-line-clause-any_moment
returns-in_err-line-clause-any_moment g c = λ holds.
    let t = told_start (g.I.Source.left c.args.input.now) holds (g.H.Host.moments c.args.host.now) in
    let e = c.in_err-line.field-0.0 in
    let bytes = c.in_ok-given.given in
    let a = g.H.Host.moments c.args.host.now in
    let b = g.H.Host.moments c.make_remote.new.host in
    goes_not_made c.args.remote.now c.args.name.now t bytes c.in_ok-given.ensures.ok e c.from_residual-in_err-line.result (g.met.H.Host.is_tree c.args.host.now)
    (subst (λ (l : List ℕ). Always (Makes c.args.remote.now c.args.name.now l) a b) c.as_slice.ensures c.make_remote.ensures.any_moment)
    (subst (λ (l : List ℕ). IsMakeFault l e) c.as_slice.ensures c.in_err-line.ensures.refused)
    (λ line is. c.make_remote.ensures.refused_unchanged line (c.in_err-line.was ∙ ap (λ (x : MakeEnd). Err x) is))
    c.from_residual-in_err-line.ensures.1

pub returns-in_err-line-clause-fault_has_cause : goal.returns-in_err-line-clause-fault_has_cause
returns-in_err-line-clause-fault_has_cause g c = record {
  later = c.make_remote.ensures.fault_has_cause.later;
  fault = λ is. c.make_remote.ensures.fault_has_cause.fault (make_fault c.make_remote.result c.from_residual-in_err-line.result c.in_err-line.field-0.0 c.in_err-line.was c.from_residual-in_err-line.ensures.1 is);
}

pub returns-in_err-line-clause-no_remote_fault : goal.returns-in_err-line-clause-no_remote_fault
returns-in_err-line-clause-no_remote_fault g c = λ is. make_remote_fault c.from_residual-in_err-line.result c.in_err-line.field-0.0 c.from_residual-in_err-line.ensures.1 is

pub returns-in_err-line-clause-input : goal.returns-in_err-line-clause-input
returns-in_err-line-clause-input g c = λ is. absurd (make_input_fault c.from_residual-in_err-line.result c.in_err-line.field-0.0 c.from_residual-in_err-line.ensures.1 is)

pub returns-in_err-line-clause-taken : goal.returns-in_err-line-clause-taken
returns-in_err-line-clause-taken g c = drained_by c.from_residual-in_err-line.result (g.I.Source.left c.args.input.now) (g.I.Source.left c.read_input.new.input) c.in_ok-given.ensures.taken

-- ---- its line wasn't printed

pub returns-in_err-say-clause-any_moment : goal.returns-in_err-say-clause-any_moment
returns-in_err-say-clause-any_moment g c = λ holds.
    let t = told_start (g.I.Source.left c.args.input.now) holds (g.H.Host.moments c.args.host.now) in
    let bytes = c.in_ok-given.given in
    let line = c.in_ok-line.line in
    let a = g.H.Host.moments c.args.host.now in
    let b = g.H.Host.moments c.make_remote.new.host in
    let d = g.H.Host.moments c.say.new.host in
    let said : c.as_bytes.result.now ≡ line = search rules in
    goes_not_said c.args.remote.now c.args.name.now t bytes c.in_ok-given.ensures.ok line c.in_err-say.field-0.0 c.say.result c.from_residual-in_err-say.result (g.met.H.Host.is_tree c.args.host.now) (g.met.H.Host.is_tree c.make_remote.new.host)
    (subst (λ (l : List ℕ). Always (Makes c.args.remote.now c.args.name.now l) a b) c.as_slice.ensures c.make_remote.ensures.any_moment)
    (subst (λ (l : List ℕ). AtEnd (WasMade c.args.remote.now c.args.name.now l line) a b) c.as_slice.ensures c.in_ok-line.ensures.on_success)
    c.in_err-say.was
    (subst (λ (l : List ℕ). Goes b d (Says l) (SaidBy l c.say.result)) said c.say.ensures.any_moment)
    c.from_residual-in_err-say.ensures.1

pub returns-in_err-say-clause-fault_has_cause : goal.returns-in_err-say-clause-fault_has_cause
returns-in_err-say-clause-fault_has_cause g c =
    caused_after _ _ _ c.make_remote.ensures.fault_has_cause.later c.make_remote.ensures.any_moment (λ u w q at. tt) c.say.ensures.fault_has_cause
    (λ is. said_fault c.say.result c.from_residual-in_err-say.result c.in_err-say.field-0.0 c.in_err-say.was c.from_residual-in_err-say.ensures.1 is)

pub returns-in_err-say-clause-no_remote_fault : goal.returns-in_err-say-clause-no_remote_fault
returns-in_err-say-clause-no_remote_fault g c = λ is. said_remote c.from_residual-in_err-say.result c.in_err-say.field-0.0 c.from_residual-in_err-say.ensures.1 is

pub returns-in_err-say-clause-input : goal.returns-in_err-say-clause-input
returns-in_err-say-clause-input g c = λ is. absurd (run_input c.from_residual-in_err-say.result (end_of_host c.in_err-say.field-0.0) c.from_residual-in_err-say.ensures.1 is)

pub returns-in_err-say-clause-taken : goal.returns-in_err-say-clause-taken
returns-in_err-say-clause-taken g c = drained_by c.from_residual-in_err-say.result (g.I.Source.left c.args.input.now) (g.I.Source.left c.read_input.new.input) c.in_ok-given.ensures.taken

-- ---- it was

pub returns-clause-any_moment : goal.returns-clause-any_moment
returns-clause-any_moment g c = λ holds.
    let t = told_start (g.I.Source.left c.args.input.now) holds (g.H.Host.moments c.args.host.now) in
    let bytes = c.in_ok-given.given in
    let line = c.in_ok-line.line in
    let a = g.H.Host.moments c.args.host.now in
    let b = g.H.Host.moments c.make_remote.new.host in
    let d = g.H.Host.moments c.say.new.host in
    let said : c.as_bytes.result.now ≡ line = search rules in
    goes_made c.args.remote.now c.args.name.now t bytes c.in_ok-given.ensures.ok line (g.met.H.Host.is_tree c.args.host.now) (g.met.H.Host.is_tree c.make_remote.new.host)
    (subst (λ (l : List ℕ). Always (Makes c.args.remote.now c.args.name.now l) a b) c.as_slice.ensures c.make_remote.ensures.any_moment)
    (subst (λ (l : List ℕ). AtEnd (WasMade c.args.remote.now c.args.name.now l line) a b) c.as_slice.ensures c.in_ok-line.ensures.on_success)
    (subst (λ (l : List ℕ). Goes b d (Says l) (SaidBy l (Ok tt))) said c.in_ok-say.ensures.any_moment)

pub returns-clause-fault_has_cause : goal.returns-clause-fault_has_cause
returns-clause-fault_has_cause g c = record { later = omega (arith, c.make_remote.ensures.fault_has_cause.later, c.say.ensures.fault_has_cause.later); fault = λ is. absurd (cc is) }

pub returns-clause-taken : goal.returns-clause-taken
returns-clause-taken g c = drained_by (Ok tt) (g.I.Source.left c.args.input.now) (g.I.Source.left c.read_input.new.input) c.in_ok-given.ensures.taken
