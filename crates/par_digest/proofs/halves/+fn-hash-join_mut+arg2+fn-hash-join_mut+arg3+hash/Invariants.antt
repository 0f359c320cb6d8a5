use Rattle.std.proofs.Common.{length}
use Rattle.par_digest.proofs.halves.+fn-hash-join_mut+arg2+fn-hash-join_mut+arg3+hash.Given as goal

abbrev pub decreases-join_mut+arg2 : goal.decreases-join_mut+arg2
decreases-join_mut+arg2 g l = length l.front.now

abbrev pub decreases-join_mut+arg3 : goal.decreases-join_mut+arg3
decreases-join_mut+arg3 g l = length l.back.now

abbrev pub decreases-hash : goal.decreases-hash
decreases-hash g l = length l.items.now
