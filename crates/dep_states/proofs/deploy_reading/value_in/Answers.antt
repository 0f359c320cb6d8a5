use Rattle.std.proofs.Common.{Err, ap, ◌∙◌, subst}
use Rattle.gv_value.specs.Reading.{value_of}
use Rattle.gv_value.specs.Views.{shape_of, plain}
use Rattle.gv_value.proofs.Long.{long_is_none, short_is_none}
use Rattle.gv_decode.specs.Decoded.{Gives}
use Rattle.dep_states.proofs.deploy_reading.value_in.Goals as goal

pub returns-in-Err-TooLong : goal.returns-in-Err-TooLong
returns-in-Err-TooLong c = long_is_none (shape_of c.args.of.now) c.args.bytes.now (c.decode.ensures.too_long.0 (c.in-Err-TooLong.is ∙ ap Err c.in-Err-TooLong.field-0-is))

pub returns-in-Err-NotNormal : goal.returns-in-Err-NotNormal
returns-in-Err-NotNormal c = short_is_none (shape_of c.args.of.now) c.args.bytes.now (λ short.
    subst (λ r. Gives plain r (value_of (shape_of c.args.of.now) c.args.bytes.now)) (c.in-Err-NotNormal.is ∙ ap Err c.in-Err-NotNormal.field-0-is) (c.decode.ensures.read short))
