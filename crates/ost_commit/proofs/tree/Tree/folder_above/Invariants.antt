use Rattle.std.proofs.Common.{◌≡◌, ◌≤◌, List, [], drop, length}
use Rattle.fp_host.specs.Paths.{Elements}
use Rattle.ost_commit.specs.declared.row.TreeRow.{TreeRow}
use Rattle.ost_commit.specs.Rows.{Said}
use Rattle.ost_commit.specs.Folders.{Gathers, Reached}
use Rattle.ost_commit.proofs.tree.Tree.folder_above.Given as goal

abbrev pub invariant-loop-up : goal.invariant-loop-up
invariant-loop-up l = record {
  reached : (rows : List TreeRow) (said : Elements → Said) → Gathers rows said l.fn.self.folders.items → Reached rows said (drop l.up l.path) l.fn.self l.self l.folder;
  bound : l.up ≤ length l.path;
  begun : l.up ≡ 0 → l.path ≡ [];
}

abbrev pub decreases-loop-up : goal.decreases-loop-up
decreases-loop-up l = l.up
