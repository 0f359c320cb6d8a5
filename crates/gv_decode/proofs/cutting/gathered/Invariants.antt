use Rattle.gv_decode.specs.Decoded.{slices}
use Rattle.gv_decode.specs.Stepped.{elements_left, IsOpen}
use Rattle.gv_decode.proofs.Runs.{SoFar}
use Rattle.gv_decode.proofs.cutting.gathered.Given as goal

abbrev pub invariant-loop-children : goal.invariant-loop-children
invariant-loop-children l = record {
  ready : IsOpen l.left;
  so_far : SoFar (slices l.children.items) (elements_left l.left) (elements_left l.elements);
}

abbrev pub decreases-loop-children : goal.decreases-loop-children
decreases-loop-children l = l.left.left
