use Rattle.fl_words.specs.Words.{is_change}
use Rattle.fl_words.proofs.Batches.{batch_all, line_good}
use Rattle.fl_words.proofs.laws.batches_hold_changes.Goals as goal

pub returns : goal.returns
returns c = batch_all is_change line_good
