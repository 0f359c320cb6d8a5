use Rattle.gv_value.specs.Views.{shape_of}
use Rattle.fl_words.proofs.TypeTexts.{found, none, text_found, type_found}
use Rattle.fl_words.proofs.value_type.ValueType.parse.Goals as goal

pub invariant_of-result : goal.invariant_of-result
invariant_of-result c = type_found c.args.text.now (shape_of c.in-Ok.of) c.in-Ok.ensures

pub returns-in-Ok-clause-ok : goal.returns-in-Ok-clause-ok
returns-in-Ok-clause-ok c = text_found c.args.text.now (shape_of c.in-Ok.of) c.in-Ok.ensures

pub returns-in-Ok-clause-good : goal.returns-in-Ok-clause-good
returns-in-Ok-clause-good c = found c.args.text.now (shape_of c.in-Ok.of) c.in-Ok.ensures

pub returns-in-Err-Bad-clause-bad : goal.returns-in-Err-Bad-clause-bad
returns-in-Err-Bad-clause-bad c = λ is. none c.args.text.now c.in-Err-Bad.field-0 c.in-Err-Bad.ensures c.in-Err-Bad.field-0-is
