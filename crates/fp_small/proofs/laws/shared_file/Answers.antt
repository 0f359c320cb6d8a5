use Rattle.fp_small.proofs.Sharing.{shares_renamed, shares_left}
use Rattle.fp_small.proofs.laws.shared_file.Goals as goal

pub returns-clause-renamed : goal.returns-clause-renamed
returns-clause-renamed c = shares_renamed

pub returns-clause-left : goal.returns-clause-left
returns-clause-left c = shares_left
