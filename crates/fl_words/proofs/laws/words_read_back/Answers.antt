use Rattle.fl_words.proofs.ReadBack.{read_back, written}
use Rattle.fl_words.proofs.laws.words_read_back.Goals as goal

pub returns-clause-written : goal.returns-clause-written
returns-clause-written c = written

pub returns-clause-read : goal.returns-clause-read
returns-clause-read c = read_back
