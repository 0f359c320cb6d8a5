use Rattle.std.proofs.Common.{take}
use Rattle.ost_commit.specs.Tables.{AreContents}
use Rattle.ost_commit.proofs.contents.contents_of.Given as goal

abbrev pub invariant-loop-at : goal.invariant-loop-at
invariant-loop-at l = AreContents (take l.at l.rows) l.contents.entries
