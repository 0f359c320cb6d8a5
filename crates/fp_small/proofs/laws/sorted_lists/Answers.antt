use Rattle.fp_small.proofs.Ordered.{is_ascending-sorted_by}
use Rattle.fp_small.proofs.Sorted.{permuted_by}
use Rattle.fp_small.proofs.laws.sorted_lists.Goals as goal

pub returns-clause-keeps : goal.returns-clause-keeps
returns-clause-keeps g c = permuted_by

pub returns-clause-ascends : goal.returns-clause-ascends
returns-clause-ascends g c = is_ascending-sorted_by
