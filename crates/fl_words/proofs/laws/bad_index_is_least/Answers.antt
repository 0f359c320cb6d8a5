use Rattle.fl_words.proofs.Beginnings.{goes_on_before, ends_there, bad_index-within}
use Rattle.fl_words.proofs.laws.bad_index_is_least.Goals as goal

pub returns-clause-before : goal.returns-clause-before
returns-clause-before c = goes_on_before

pub returns-clause-there : goal.returns-clause-there
returns-clause-there c = ends_there

pub returns-clause-within : goal.returns-clause-within
returns-clause-within c = bad_index-within
