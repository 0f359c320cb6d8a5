use Rattle.fl_options.proofs.Rows.{open_place, open_denial, open_name, closed_name}
use Rattle.fl_options.proofs.laws.open_names_are_no_options.Goals as goal

pub returns-clause-place : goal.returns-clause-place
returns-clause-place c = open_place

pub returns-clause-denial : goal.returns-clause-denial
returns-clause-denial c = open_denial

pub returns-clause-folder : goal.returns-clause-folder
returns-clause-folder c = open_name

pub returns-clause-even : goal.returns-clause-even
returns-clause-even c = closed_name
