use Rattle.std.proofs.Common.{Some, None, ◌∙◌}
use Rattle.fl_options.proofs.Lines.{text_command}
use Rattle.fl_options.proofs.options.command_option.Goals as goal

pub returns-in-Some : goal.returns-in-Some
returns-in-Some c = c.command_in.ensures ∙ text_command c.args.word.now (Some (c.in-Some.option.now, c.in-Some.name.now)) c.utf8.word c.in-Some.ensures

pub returns-in-None : goal.returns-in-None
returns-in-None c = text_command c.args.word.now None c.utf8.word c.in-None.ensures
