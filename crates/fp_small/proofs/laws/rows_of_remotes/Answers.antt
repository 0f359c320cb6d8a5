use Rattle.fp_small.specs.Config.{name_of}
use Rattle.fp_small.proofs.Ordered.{removed-filter}
use Rattle.fp_small.proofs.Sorted.{permuted_inserted}
use Rattle.fp_small.proofs.laws.rows_of_remotes.Goals as goal

pub returns-clause-added : goal.returns-clause-added
returns-clause-added c = permuted_inserted name_of

pub returns-clause-dropped : goal.returns-clause-dropped
returns-clause-dropped c = removed-filter name_of
