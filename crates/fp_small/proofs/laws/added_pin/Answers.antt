use Rattle.fp_small.proofs.Ordered.{Contains-inserted}
use Rattle.fp_small.proofs.Pinning.{added}
use Rattle.fp_small.proofs.laws.added_pin.Goals as goal

pub returns-clause-good : goal.returns-clause-good
returns-clause-good c = added

pub returns-clause-has : goal.returns-clause-has
returns-clause-has c = Contains-inserted
