use Rattle.fl_options.proofs.Reading.{back, is_read}
use Rattle.fl_options.proofs.laws_of_rules.rules_are_read.Goals as goal

pub returns : goal.returns
returns c = λ rule text. (back rule text, is_read text rule)
