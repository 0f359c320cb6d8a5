use Rattle.std.proofs.Common.{◌≡◌, ◌≤◌, ◌-◌, length, drop}
use Rattle.fp_small.specs.Folders.{ancestors}
use Rattle.fp_small.proofs.replacing.ancestors.Given as goal

abbrev pub invariant-loop-up : goal.invariant-loop-up
invariant-loop-up l = record {
  so_far : l.folders.items ≡ ancestors (drop (l.up - 1) l.path);
  low : l.up ≤ length l.path;
}

abbrev pub decreases-loop-up : goal.decreases-loop-up
decreases-loop-up l = l.up
