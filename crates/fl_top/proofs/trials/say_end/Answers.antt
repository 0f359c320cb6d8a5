use Rattle.std.proofs.Common.{◌≡◌, ◌∙◌, ap, rules, refl, Ok, Err}
use Rattle.fp_host.specs.Causes.{end_of}
use Rattle.ost_walk.specs.Ends.{outside}
use Rattle.fl_change.specs.Ends.{end_of_host}
use Rattle.fl_change.specs.declared.end.RunEnd.TheVariants.{NoMemory}
use Rattle.fl_change.proofs.Acting.{acts_err, acts_halted}
use Rattle.fl_change.proofs.Composing.{Saying}
use Rattle.fl_top.specs.Exercising.{end_text, end_answer}
use Rattle.fl_top.proofs.Lines.{acts_told, acts_not_told}
use Rattle.fl_top.proofs.trials.say_end.Goals as goal

pub returns-in_err-line : goal.returns-in_err-line
returns-in_err-line g c = record { acts = λ acted. acts_err c.from_residual.result NoMemory c.from_residual.ensures.1 (acts_halted (end_answer c.args.apps.now) (g.met.H.Host.is_tree c.args.host.now)) }

pub returns-in_err-say : goal.returns-in_err-say
returns-in_err-say g c =
    let u = outside (g.H.Host.moments c.args.host.now) (g.H.Host.faults c.args.host.now) (g.R.Remotes.holds c.args.remotes.now) (g.R.Remotes.faults c.args.remotes.now) in
    let v = outside (g.H.Host.moments c.say.new.self) (g.H.Host.faults c.say.new.self) (g.R.Remotes.holds c.args.remotes.now) (g.R.Remotes.faults c.args.remotes.now) in
    let said : c.as_bytes.result.now ≡ c.in_ok-line.line = search rules in
    let is : c.in_ok-line.line ≡ end_text c.args.apps.now c.args.opened = c.in_ok-line.ensures ∙ ap (end_text c.args.apps.now) c.state.ensures in
    let call : Saying c.as_bytes.result.now (Err c.in_err-say.field-0.0) u v = record { step = c.in_err-say.ensures.step; cause = c.in_err-say.ensures.fault_has_cause; holdings = refl; remote_faults = refl } in
    record {
      acts = λ acted. acts_err c.from_residual-in_err-say.result (end_of_host (end_of c.in_err-say.field-0.0)) c.from_residual-in_err-say.ensures.1
          (acts_not_told (end_answer c.args.apps.now) c.args.opened (end_text c.args.apps.now c.args.opened) c.as_bytes.result.now (λ held x. refl) (said ∙ is) c.in_err-say.field-0.0 call);
    }

pub returns : goal.returns
returns g c =
    let u = outside (g.H.Host.moments c.args.host.now) (g.H.Host.faults c.args.host.now) (g.R.Remotes.holds c.args.remotes.now) (g.R.Remotes.faults c.args.remotes.now) in
    let v = outside (g.H.Host.moments c.say.new.self) (g.H.Host.faults c.say.new.self) (g.R.Remotes.holds c.args.remotes.now) (g.R.Remotes.faults c.args.remotes.now) in
    let said : c.as_bytes.result.now ≡ c.in_ok-line.line = search rules in
    let is : c.in_ok-line.line ≡ end_text c.args.apps.now c.args.opened = c.in_ok-line.ensures ∙ ap (end_text c.args.apps.now) c.state.ensures in
    let call : Saying c.as_bytes.result.now (Ok tt) u v = record { step = c.in_ok-say.ensures.step; cause = c.in_ok-say.ensures.fault_has_cause; holdings = refl; remote_faults = refl } in
    record { acts = λ acted. acts_told (end_answer c.args.apps.now) c.args.opened (end_text c.args.apps.now c.args.opened) c.as_bytes.result.now (λ held x. refl) (said ∙ is) call }
