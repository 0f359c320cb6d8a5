use Rattle.std.proofs.Common.{◌≡◌, ◌+◌, ◌*◌, drop}
use Rattle.gv_value.specs.Shape.{nests_within, all_shapes}
use Rattle.gv_value.specs.Views.{shapes_of}
use Rattle.gv_value.proofs.nesting.+nests.Given as goal

abbrev pub decreases-nests_within : goal.decreases-nests_within
decreases-nests_within l = 2 * l.room

abbrev pub decreases-all_nest_within : goal.decreases-all_nest_within
decreases-all_nest_within l = 2 * l.room + 1

abbrev pub invariant-all_nest_within-loop-member : goal.invariant-all_nest_within-loop-member
invariant-all_nest_within-loop-member l = all_shapes (nests_within l.room) (shapes_of (drop l.member-index l.members)) ≡ all_shapes (nests_within l.room) (shapes_of l.members)
