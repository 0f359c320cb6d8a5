use Rattle.std.proofs.Common.{◌≡◌, option_and_then, sym, ap, ◌∙◌, subst}
use Rattle.fp_base.specs.declared.rule.Rule.TheVariants as broken
use Rattle.gv_value.specs.Reading.{value_of}
use Rattle.gv_value.specs.Shape.{Shape}
use Rattle.ost_model.specs.Fields.{number_in}
use Rattle.ost_object.specs.Answers.{Finds, Misses, as_is}
use Rattle.ost_object.proofs.Judging.{finds-err}
use Rattle.ost_object.proofs.ReadTrees.{number-at, number-misses}
use Rattle.ost_object.proofs.values.number_in_bytes.Goals as goal

pub returns-in_err-value : goal.returns-in_err-value
returns-in_err-value c =
    let bytes = c.args.bytes.now in
    let e = c.in_err-value.field-0.0 in
    finds-err as_is broken.Value c.from_residual.result e _ c.from_residual.ensures.1
    (number-misses broken.Value e bytes (subst (λ (s : Shape). Misses broken.Value e (value_of s bytes)) c.from_basic.ensures c.in_err-value.ensures))

pub returns : goal.returns
returns c =
    let bytes = c.args.bytes.now in
    let is = number-at bytes ∙ ap (option_and_then number_in) (ap (λ (s : Shape). value_of s bytes) (sym c.from_basic.ensures) ∙ c.in_ok-value.ensures) in
    subst (Finds as_is c.number_of.result) (sym is) c.number_of.ensures
