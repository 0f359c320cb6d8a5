use Rattle.std.proofs.Common.{length}
use Rattle.fp_system.proofs.syncing.+fn-sync_parts-join+arg2+fn-sync_parts-join+arg3+sync_parts.Given as goal

abbrev pub decreases-join+arg2 : goal.decreases-join+arg2
decreases-join+arg2 g l = length l.front.now

abbrev pub decreases-join+arg3 : goal.decreases-join+arg3
decreases-join+arg3 g l = length l.back.now

abbrev pub decreases-sync_parts : goal.decreases-sync_parts
decreases-sync_parts g l = length l.items.now
