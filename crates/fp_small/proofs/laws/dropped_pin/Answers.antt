use Rattle.fp_small.proofs.Ordered.{Contains-removed}
use Rattle.fp_small.proofs.Pinning.{dropped}
use Rattle.fp_small.proofs.laws.dropped_pin.Goals as goal

pub returns-clause-good : goal.returns-clause-good
returns-clause-good c = dropped

pub returns-clause-has : goal.returns-clause-has
returns-clause-has c = Contains-removed
