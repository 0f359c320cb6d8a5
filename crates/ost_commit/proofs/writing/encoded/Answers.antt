use Rattle.std.proofs.Common.{ap, ◌∙◌, Err}
use Rattle.gv_value.specs.Views.{shape_of, plain}
use Rattle.ost_object.proofs.Written.{unfit, too_long}
use Rattle.ost_commit.proofs.Reading.{tree_is}
use Rattle.ost_commit.proofs.writing.encoded.Goals as goal

pub returns-in-Ok-clause-says : goal.returns-in-Ok-clause-says
returns-in-Ok-clause-says c = tree_is (shape_of c.args.of.now) (plain c.args.value.now) c.in-Ok.bytes c.in-Ok.ensures.spelled

pub returns-in-Err-NotOfType-clause-error : goal.returns-in-Err-NotOfType-clause-error
returns-in-Err-NotOfType-clause-error c = unfit (shape_of c.args.of.now) (plain c.args.value.now) (c.encode.ensures.not_of_type.0 (c.in-Err-NotOfType.is ∙ ap Err c.in-Err-NotOfType.field-0-is))

pub returns-in-Err-TooLong-clause-error : goal.returns-in-Err-TooLong-clause-error
returns-in-Err-TooLong-clause-error c = too_long (shape_of c.args.of.now) (plain c.args.value.now) (c.encode.ensures.too_long (c.in-Err-TooLong.is ∙ ap Err c.in-Err-TooLong.field-0-is)).1
