use Rattle.std.proofs.Common.{drop}
use Rattle.gv_value.specs.Views.{shape_of, shapes_of}
use Rattle.gv_value.proofs.Extents.{SoFar}
use Rattle.gv_value.proofs.Nodes.{nodes, all_nodes}
use Rattle.gv_value.proofs.measuring.+measure.Given as goal

abbrev pub decreases-extent_of : goal.decreases-extent_of
decreases-extent_of l = nodes (shape_of l.of.now)

abbrev pub decreases-extent_of_members : goal.decreases-extent_of_members
decreases-extent_of_members l = all_nodes (shapes_of l.members.now)

abbrev pub invariant-extent_of_members-loop-member : goal.invariant-extent_of_members-loop-member
invariant-extent_of_members-loop-member l = SoFar l.run (shapes_of (drop l.member-index l.members)) (shapes_of l.members)
