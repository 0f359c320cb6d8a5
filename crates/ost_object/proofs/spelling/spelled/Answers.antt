use Rattle.std.proofs.Common.{Err, refl, ap, ◌∙◌}
use Rattle.gv_value.specs.Views.{shape_of, plain}
use Rattle.ost_object.proofs.Written.{unfit, too_long}
use Rattle.ost_object.proofs.spelling.spelled.Goals as goal

pub returns-in-Err-NotOfType : goal.returns-in-Err-NotOfType
returns-in-Err-NotOfType c = (
  refl,
  unfit (shape_of c.args.of.now) (plain c.args.value.now) (c.encode.ensures.not_of_type.0 (c.in-Err-NotOfType.is ∙ ap Err c.in-Err-NotOfType.field-0-is)),
)

pub returns-in-Err-TooLong : goal.returns-in-Err-TooLong
returns-in-Err-TooLong c = (
  refl,
  too_long (shape_of c.args.of.now) (plain c.args.value.now) (c.encode.ensures.too_long (c.in-Err-TooLong.is ∙ ap Err c.in-Err-TooLong.field-0-is)).1,
)
