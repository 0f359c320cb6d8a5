use Rattle.std.proofs.Common.{◌≡◌, ◌≤◌, ℕ, List, length}
use Rattle.fp_base.specs.declared.object.ObjKind.TheVariants as kinds
use Rattle.fp_host.specs.Paths.{Elements}
use Rattle.ost_commit.specs.declared.row.TreeRow.{TreeRow}
use Rattle.ost_commit.specs.declared.tree.Folder.{Folder}
use Rattle.ost_commit.specs.Rows.{Said}
use Rattle.ost_commit.specs.Digests.{AreDigests}
use Rattle.ost_commit.specs.Folders.{At, Gathers}
use Rattle.ost_commit.specs.Tables.{AreUsable}
use Rattle.ost_commit.specs.Trees.{done_at, IsWritten}
use Rattle.ost_commit.proofs.Weights.{HasRoom}
use Rattle.ost_commit.proofs.directories.dirtrees_of.Given as goal

abbrev pub invariant-loop-folder : goal.invariant-loop-folder
invariant-loop-folder l = record {
  left : (i : ℕ) (f : Folder) → At l.folders.items i f → At l.fn.folders.items i f;
  few : length l.folders.items ≤ length l.fn.folders.items;
  long : length l.done.items ≡ length l.fn.folders.items;
  usable : AreUsable kinds.DirTree l.trees.entries;
  room : HasRoom l.fn.folders.items l.done.items (length l.folders.items);
  written : (rows : List TreeRow) (said : Elements → Said) → Gathers rows said l.fn.folders.items → AreDigests rows l.contents
      → (i : ℕ) (f : Folder) → At l.fn.folders.items i f → length l.folders.items ≤ i → IsWritten rows said l.contents l.meta l.trees.entries f.path (done_at l.done.items i);
}

abbrev pub decreases-loop-folder : goal.decreases-loop-folder
decreases-loop-folder l = length l.folders.items
