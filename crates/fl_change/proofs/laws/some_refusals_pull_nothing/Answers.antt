use Rattle.std.proofs.Common.{◌≡◌, refl, sym, subst}
use Rattle.fp_small.specs.declared.refusal.Refusal.TheVariants.{PinExists}
use Rattle.fl_words.specs.declared.command.Change.TheVariants.{Pin}
use Rattle.fl_change.specs.Answer.{Answer, IsUnpulled, refusal_answer}
use Rattle.fl_change.specs.Turns.{change_over}
use Rattle.fl_change.proofs.Pulled.{op_pulls}
use Rattle.fl_change.proofs.laws.some_refusals_pull_nothing.Goals as goal

pub returns-clause-pin : goal.returns-clause-pin
returns-clause-pin c held x pin has =
    let is : change_over (Pin pin) held x ≡ refusal_answer (PinExists pin) = rw has refl in
    subst (λ (a : Answer). IsUnpulled a.refusal) (sym is) tt

pub returns-clause-operation : goal.returns-clause-operation
returns-clause-operation c have op refusal is = op_pulls have op refusal is
