use Rattle.std.proofs.Common.{◌≡◌, subst, rules}
use Rattle.std.specs.Option.{IsSome}
use Rattle.gv_value.specs.Reading.{value_of}
use Rattle.gv_value.specs.Shape.{Shape}
use Rattle.gv_value.specs.Views.{shape_of}
use Rattle.gv_decode.specs.Decoded.{slices, children_of}
use Rattle.gv_decode.proofs.Contained.{value-short}
use Rattle.fp_base.specs.declared.rule.Rule.TheVariants as broken
use Rattle.ost_object.specs.Answers.{Finds, Misses}
use Rattle.ost_object.proofs.Divided.{divides-err, undivided-value, divides-children}
use Rattle.ost_object.proofs.Kept.{some-value}
use Rattle.ost_object.proofs.bindings.entries_of.Goals as goal

pub returns-in_err-check : goal.returns-in_err-check
returns-in_err-check c =
    let e = c.in_err-check.field-0.0 in
    divides-err (λ entries. slices entries.items) c.from_residual-in_err-check.result e c.args.bytes.now c.from_residual-in_err-check.ensures.1
    (undivided-value e c.args.bytes.now (subst (λ (s : Shape). Misses broken.Value e (value_of s c.args.bytes.now)) c.in_ok-of.ensures c.in_err-check.ensures))

pub children_of-requires : goal.children_of-requires
children_of-requires c = let v = some-value (value_of (shape_of c.in_ok-of.of) c.args.bytes.now) c.in_ok-check.ensures in value-short (shape_of c.in_ok-of.of) c.args.bytes.now v.0 v.1

pub returns : goal.returns
returns c =
    divides-children (λ entries. slices entries.items) c.children_of.result c.args.bytes.now
    (subst (λ (s : Shape). IsSome (value_of s c.args.bytes.now)) c.in_ok-of.ensures c.in_ok-check.ensures)
    (subst (λ (s : Shape). Finds (λ entries. slices entries.items) c.children_of.result (children_of s c.args.bytes.now)) c.in_ok-of.ensures c.children_of.ensures)
