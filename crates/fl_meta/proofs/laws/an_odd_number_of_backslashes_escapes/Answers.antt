use Rattle.fl_meta.proofs.Whole.{even_closes, odd_opens, one_cut}
use Rattle.fl_meta.proofs.laws.an_odd_number_of_backslashes_escapes.Goals as goal

pub returns-clause-even : goal.returns-clause-even
returns-clause-even c = even_closes

pub returns-clause-odd : goal.returns-clause-odd
returns-clause-odd c = odd_opens

pub returns-clause-end : goal.returns-clause-end
returns-clause-end c = one_cut
