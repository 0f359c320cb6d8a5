use Rattle.std.proofs.Common.{◌<◌, sym, subst, rules}
use Rattle.gv_value.specs.Views.{shape_of, shapes_of}
use Rattle.gv_value.specs.declared.types.GvType.{GvType}
use Rattle.gv_value.proofs.Nodes.{nodes, all_nodes, member_nodes}
use Rattle.gv_value.proofs.type_strings.+push.Goals as goal

pub push_types-push_type-requires : goal.push_types-push_type-requires
push_types-push_type-requires t c =
    let ts = c.args.members.now in
    let smaller : nodes (shape_of c.member-item.result) < all_nodes (shapes_of ts) =
    subst (λ (x : GvType). nodes (shape_of x) < all_nodes (shapes_of ts)) (sym c.member-item.is) (member_nodes ts c.loop-member.member-index c.member-item.result c.loop-member-test.true) in
    search rules
