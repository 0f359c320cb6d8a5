use Rattle.std.proofs.Common.{◌≡◌, ◌++◌, map, length}
use Rattle.ost_commit.specs.Tables.{built_of}
use Rattle.ost_commit.proofs.objects.add_all.Given as goal

abbrev pub invariant-loop-digest : goal.invariant-loop-digest
invariant-loop-digest l = l.objects ++ map (built_of l.kind) l.table.entries ≡ l.fn.objects ++ map (built_of l.kind) l.fn.table.entries

abbrev pub decreases-loop-digest : goal.decreases-loop-digest
decreases-loop-digest l = length l.table.entries
