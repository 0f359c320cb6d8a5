use Rattle.std.proofs.Common.{◌≡◌, ◌<◌, length, Err, refl, ap, ◌∙◌, subst, arith}
use Rattle.gv_value.specs.declared.limits.TheConstants.{MOST_BYTES}
use Rattle.gv_value.specs.Views.{shape_of}
use Rattle.gv_decode.specs.Decoded.{Gives, slices, children_of}
use Rattle.ost_object.proofs.values.children_of.Goals as goal

pub returns-in-Err-TooLong : goal.returns-in-Err-TooLong
returns-in-Err-TooLong c =
    let long : MOST_BYTES < length c.args.bytes.now = c.children.ensures.too_long.0 (c.in-Err-TooLong.is ∙ ap Err c.in-Err-TooLong.field-0-is) in
    absurd (omega (arith, long, c.requires))

pub returns-in-Err-NotNormal : goal.returns-in-Err-NotNormal
returns-in-Err-NotNormal c = (
  refl,
  subst (λ r. Gives (λ found. slices found.items) r (children_of (shape_of c.args.of.now) c.args.bytes.now)) (c.in-Err-NotNormal.is ∙ ap Err c.in-Err-NotNormal.field-0-is) (c.children.ensures.found c.requires),
)
