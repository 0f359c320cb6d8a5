use Rattle.std.proofs.Common.{◌≡◌, ◌++◌, drop}
use Rattle.gv_value.specs.TypeText.{type_texts}
use Rattle.gv_value.specs.Views.{shape_of, shapes_of}
use Rattle.gv_value.proofs.Nodes.{nodes, all_nodes}
use Rattle.gv_value.proofs.type_strings.+push.Given as goal

abbrev pub decreases-push_type : goal.decreases-push_type
decreases-push_type l = nodes (shape_of l.of.now)

abbrev pub decreases-push_types : goal.decreases-push_types
decreases-push_types l = all_nodes (shapes_of l.members.now)

abbrev pub invariant-push_types-loop-member : goal.invariant-push_types-loop-member
invariant-push_types-loop-member l = l.text.items ++ type_texts (shapes_of (drop l.member-index l.members)) ≡ l.initial.text.items ++ type_texts (shapes_of l.members)
