use Rattle.std.proofs.Common.{Err, ap, sym, ◌∙◌, subst}
use Rattle.std.specs.Option.{is_some}
use Rattle.gv_value.specs.Reading.{value_of}
use Rattle.gv_value.specs.Views.{shape_of}
use Rattle.gv_value.proofs.Long.{long_is_none, short_is_none}
use Rattle.gv_decode.specs.Decoded.{Passes}
use Rattle.fl_top.proofs.Shown.{some_checked}
use Rattle.fl_top.proofs.showing.is_normal.Goals as goal

pub returns-in-Err-TooLong : goal.returns-in-Err-TooLong
returns-in-Err-TooLong c = sym (ap is_some (long_is_none (shape_of c.args.of.now) c.args.bytes.now (c.check_normal.ensures.too_long.0 (c.in-Err-TooLong.is ∙ ap Err c.in-Err-TooLong.field-0-is))))

pub returns-in-Err-NotNormal : goal.returns-in-Err-NotNormal
returns-in-Err-NotNormal c = sym (ap is_some (short_is_none (shape_of c.args.of.now) c.args.bytes.now (λ short.
    subst (λ r. Passes r (value_of (shape_of c.args.of.now) c.args.bytes.now)) (c.in-Err-NotNormal.is ∙ ap Err c.in-Err-NotNormal.field-0-is) (c.check_normal.ensures.read short))))

pub returns-in-Ok : goal.returns-in-Ok
returns-in-Ok c = some_checked (shape_of c.args.of.now) c.args.bytes.now c.check_normal.result c.in-Ok.is c.check_normal.ensures.too_long.1 c.check_normal.ensures.read
