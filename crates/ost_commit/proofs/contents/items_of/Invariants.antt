use Rattle.std.proofs.Common.{take}
use Rattle.par_digest.specs.Digests.{item_digests}
use Rattle.ost_commit.specs.Digests.{AreDigests}
use Rattle.ost_commit.proofs.contents.items_of.Given as goal

abbrev pub invariant-loop-row : goal.invariant-loop-row
invariant-loop-row l = AreDigests (take l.row-index l.rows) (item_digests l.items.items)
