use Rattle.std.proofs.Common.{string_bytes}
use Rattle.fl_options.proofs.Lines.{lines_cut, no_lines_cut}
use Rattle.fl_options.proofs.option_lines.option_lines.Goals as goal

pub returns-in-Some : goal.returns-in-Some
returns-in-Some c = lines_cut string_bytes c.lines_with.result c.args.word.now c.in-Some.name.now c.in-Some.text.now c.utf8.word c.in-Some.ensures c.lines_with.ensures

pub returns-in-None : goal.returns-in-None
returns-in-None c = no_lines_cut c.args.word.now c.utf8.word c.in-None.ensures
