use Rattle.std.proofs.Common.{◌≡◌, Some, option_and_then, sym, ap, ◌∙◌, subst, refl}
use Rattle.std.specs.Prelude.{Result}
use Rattle.std.specs.Option.{IsSome}
use Rattle.gv_value.specs.Reading.{value_of}
use Rattle.gv_value.specs.Shape.{Shape}
use Rattle.gv_decode.specs.Decoded.{slices, children_of}
use Rattle.fp_base.specs.declared.rule.Rule.{Rule}
use Rattle.fp_base.specs.declared.rule.Rule.TheVariants as broken
use Rattle.ost_model.specs.Fields.{MetaView, meta_in}
use Rattle.ost_model.specs.Readers.{meta_breaks, judged}
use Rattle.ost_model.specs.Types.{meta_shape}
use Rattle.ost_object.specs.Answers.{Misses, Reads}
use Rattle.ost_object.specs.Parts.{meta_shapes}
use Rattle.ost_object.specs.Views.{meta_view}
use Rattle.ost_object.proofs.ByParts.{checked-short, tuple-there, tuple-parts}
use Rattle.ost_object.proofs.Judging.{reads-err}
use Rattle.ost_object.proofs.ReadTrees.{nothing-judged, missed-judged}
use Rattle.ost_object.proofs.reading_metas.read_dirmeta.Goals as goal

pub returns-in_err-check : goal.returns-in_err-check
returns-in_err-check c =
    let e = c.in_err-check.field-0.0 in
    reads-err meta_view c.from_residual-in_err-check.result e _ c.from_residual-in_err-check.ensures.1
    (nothing-judged meta_in meta_breaks e (value_of meta_shape c.args.bytes.now) (subst (λ (s : Shape). Misses broken.Value e (value_of s c.args.bytes.now)) c.in_ok-of.ensures c.in_err-check.ensures))

pub members_of-requires : goal.members_of-requires
members_of-requires c =
    let bytes = c.args.bytes.now in
    let some = subst (λ (s : Shape). IsSome (value_of s bytes)) c.in_ok-of.ensures c.in_ok-check.ensures in
    record { short = checked-short meta_shape bytes some; there = subst (λ (s : Shape). IsSome (children_of s bytes)) (sym c.in_ok-of.ensures) (tuple-there meta_shapes bytes some) }

pub fields_of-requires : goal.fields_of-requires
fields_of-requires c =
    let bytes = c.args.bytes.now in
    let some = subst (λ (s : Shape). IsSome (value_of s bytes)) c.in_ok-of.ensures c.in_ok-check.ensures in
    let found = c.in_ok-members.ensures ∙ ap (λ xs. Some (slices xs)) (sym c.deref.ensures.value) in
    (tuple-parts meta_shapes bytes (slices c.deref.result.now) refl some (subst (λ (s : Shape). children_of s bytes ≡ Some (slices c.deref.result.now)) c.in_ok-of.ensures found)).each

pub returns-in_err-fields : goal.returns-in_err-fields
returns-in_err-fields c =
    let bytes = c.args.bytes.now in
    let e = c.in_err-fields.field-0.0 in
    let some = subst (λ (s : Shape). IsSome (value_of s bytes)) c.in_ok-of.ensures c.in_ok-check.ensures in
    let found = c.in_ok-members.ensures ∙ ap (λ xs. Some (slices xs)) (sym c.deref.ensures.value) in
    let parts = tuple-parts meta_shapes bytes (slices c.deref.result.now) refl some (subst (λ (s : Shape). children_of s bytes ≡ Some (slices c.deref.result.now)) c.in_ok-of.ensures found) in
    reads-err meta_view c.from_residual-in_err-fields.result e _ c.from_residual-in_err-fields.ensures.1
    (missed-judged meta_breaks e (option_and_then meta_in (value_of meta_shape bytes)) (subst (Misses broken.Value e) (sym (ap (option_and_then meta_in) parts.value)) c.in_err-fields.ensures))

pub returns : goal.returns
returns c =
    let bytes = c.args.bytes.now in
    let some = subst (λ (s : Shape). IsSome (value_of s bytes)) c.in_ok-of.ensures c.in_ok-check.ensures in
    let found = c.in_ok-members.ensures ∙ ap (λ xs. Some (slices xs)) (sym c.deref.ensures.value) in
    let parts = tuple-parts meta_shapes bytes (slices c.deref.result.now) refl some (subst (λ (s : Shape). children_of s bytes ≡ Some (slices c.deref.result.now)) c.in_ok-of.ensures found) in
    subst (λ (r : Result MetaView Rule). Reads meta_view c.meta_of_fields.result r)
    (sym (ap (judged meta_breaks) (ap (option_and_then meta_in) parts.value ∙ c.in_ok-fields.ensures))) c.meta_of_fields.ensures
