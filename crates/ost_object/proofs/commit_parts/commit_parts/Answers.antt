use Rattle.std.proofs.Common.{◌≡◌, Some, sym, ap, ◌∙◌, subst, rules}
use Rattle.std.specs.Option.{IsSome}
use Rattle.gv_value.proofs.Known.{AllBelow-fits}
use Rattle.gv_value.specs.Reading.{value_of}
use Rattle.gv_value.specs.Shape.{Shape}
use Rattle.gv_value.specs.Views.{shape_of}
use Rattle.gv_decode.specs.Decoded.{slices, children_of}
use Rattle.gv_decode.proofs.Contained.{value-short}
use Rattle.fp_base.specs.declared.rule.Rule.TheVariants as broken
use Rattle.ost_model.specs.Types.{commit_shape}
use Rattle.ost_object.specs.Answers.{Misses}
use Rattle.ost_object.specs.Views.{parts_view}
use Rattle.ost_object.proofs.Judging.{finds-err}
use Rattle.ost_object.proofs.Kept.{some-value}
use Rattle.ost_object.proofs.Parts.{finds-commit, misses-value, misses-children}
use Rattle.ost_object.proofs.commit_parts.commit_parts.Goals as goal

pub returns-in_err-check : goal.returns-in_err-check
returns-in_err-check c =
    let e = c.in_err-check.field-0.0 in
    finds-err parts_view broken.Value c.from_residual-in_err-check.result e _ c.from_residual-in_err-check.ensures.1
    (misses-value broken.Value e c.args.bytes.now (subst (λ (s : Shape). Misses broken.Value e (value_of s c.args.bytes.now)) c.in_ok-of.ensures c.in_err-check.ensures))

pub children_of-requires : goal.children_of-requires
children_of-requires c = let v = some-value (value_of (shape_of c.in_ok-of.of) c.args.bytes.now) c.in_ok-check.ensures in value-short (shape_of c.in_ok-of.of) c.args.bytes.now v.0 v.1

pub returns-in_err-members : goal.returns-in_err-members
returns-in_err-members c =
    let e = c.in_err-members.field-0.0 in
    finds-err parts_view broken.Value c.from_residual-in_err-members.result e _ c.from_residual-in_err-members.ensures.1
    (misses-children broken.Value e c.args.bytes.now (subst (λ (s : Shape). Misses broken.Value e (children_of s c.args.bytes.now)) c.in_ok-of.ensures c.in_err-members.ensures))

pub returns : goal.returns
returns c =
    let bytes = c.args.bytes.now in
    let found = c.in_ok-members.ensures ∙ ap (λ xs. Some (slices xs)) (sym c.deref.ensures.value) in
    finds-commit bytes (slices c.deref.result.now) c.eight_parts.result (AllBelow-fits bytes c.type_inv.bytes)
    (subst (λ (s : Shape). IsSome (value_of s bytes)) c.in_ok-of.ensures c.in_ok-check.ensures)
    (subst (λ (s : Shape). children_of s bytes ≡ Some (slices c.deref.result.now)) c.in_ok-of.ensures found) c.eight_parts.ensures
