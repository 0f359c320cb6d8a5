use Rattle.std.proofs.Common.{◌≡◌, IfOk, Err, None, sym, ap, ◌∙◌, subst}
use Rattle.std.specs.Prelude.{Result}
use Rattle.gv_value.specs.Reading.{value_of}
use Rattle.gv_value.specs.Shape.{Shape, variant}
use Rattle.gv_value.specs.Tree.{Tree}
use Rattle.gv_value.specs.Views.{plain}
use Rattle.gv_value.specs.declared.value.GvValue.{GvValue}
use Rattle.ost_model.specs.Binding.{texts_in}
use Rattle.ost_object.specs.declared.error.ObjectError.{ObjectError}
use Rattle.ost_object.specs.Answers.{Finds}
use Rattle.ost_object.proofs.Kept.{tree_at-is, tree_at-none}
use Rattle.ost_object.proofs.bindings.texts_of_variant.Goals as goal

pub returns-in-Ok : goal.returns-in-Ok
returns-in-Ok c =
    let bytes = c.args.bytes.now in
    let found = subst (λ (s : Shape). Finds plain c.value_of.result (value_of s bytes)) c.in_ok-of.ensures c.value_of.ensures in
    let here = subst (λ (r : Result GvValue ObjectError). Finds plain r (value_of variant bytes)) c.in-Ok.is found in
    subst (λ (v : Tree). IfOk c.texts_of.result (λ texts. texts ≡ texts_in v)) (sym (tree_at-is variant bytes (plain c.in-Ok.value) here)) c.texts_of.ensures

pub returns-in-Err-Malformed : goal.returns-in-Err-Malformed
returns-in-Err-Malformed c =
    let bytes = c.args.bytes.now in
    let found = subst (λ (s : Shape). Finds plain c.value_of.result (value_of s bytes)) c.in_ok-of.ensures c.value_of.ensures in
    let none = subst (λ (r : Result GvValue ObjectError). Finds plain r (value_of variant bytes)) (c.in-Err-Malformed.is ∙ ap Err c.in-Err-Malformed.field-0-is) found in
    sym (ap texts_in (tree_at-none variant bytes none.1))
