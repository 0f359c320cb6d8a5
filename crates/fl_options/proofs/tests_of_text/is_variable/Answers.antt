use Rattle.std.proofs.Common.{Some, None, ◌∙◌}
use Rattle.fl_options.proofs.Lines.{variable_is}
use Rattle.fl_options.proofs.tests_of_text.is_variable.Goals as goal

pub returns-in-Some : goal.returns-in-Some
returns-in-Some c = c.are_variable.ensures ∙ variable_is c.args.text.now (Some (c.in-Some.name.now, c.in-Some.value.now)) c.in-Some.ensures

pub returns-in-None : goal.returns-in-None
returns-in-None c = variable_is c.args.text.now None c.in-None.ensures
