use Rattle.std.proofs.Common.{◌≡◌, ◌+◌, ◌<◌, List, ◌∷◌, drop, sym, ap, ◌∙◌, subst, arith, rules}
use Rattle.std.proofs.lemmas.List.{drop_more}
use Rattle.gv_value.specs.Capped.{IsExtent}
use Rattle.gv_value.specs.Views.{shape_of, shapes_of}
use Rattle.gv_value.specs.declared.types.GvType.{GvType}
use Rattle.gv_value.proofs.Extents.{SoFar, so_far-none, so_far-more, entry-from}
use Rattle.gv_value.proofs.Nodes.{nodes, all_nodes, member_nodes}
use Rattle.gv_value.proofs.measuring.+measure.Goals as goal

pub extent_of-returns-in-Entry : goal.extent_of-returns-in-Entry
extent_of-returns-in-Entry t c =
    let none = c.no_members.ensures in
    let one = c.with_member.ensures in
    let two = c.with_member-in-Entry.ensures in
    let whole = c.filled-in-Entry.ensures in
    subst (IsExtent c.filled-in-Entry.result) c.in-Entry.ensures
    (entry-from c.no_members.result c.with_member.result c.with_member-in-Entry.result c.filled-in-Entry.result c.extent_of-in-Entry.result c.extent_of-in-Entry-2.result
    (shape_of c.in-Entry.key.now) (shape_of c.in-Entry.value.now) none.align none.end c.extent_of-in-Entry.ensures c.extent_of-in-Entry-2.ensures one.align one.end two.align two.end whole.align whole.size)

pub extent_of_members-loop-member-init : goal.extent_of_members-loop-member-init
extent_of_members-loop-member-init t c = so_far-none c.no_members-run.result (shapes_of c.args.members.now) c.no_members-run.ensures.align c.no_members-run.ensures.end

pub extent_of_members-extent_of-requires : goal.extent_of_members-extent_of-requires
extent_of_members-extent_of-requires t c =
    let i = c.loop-member.member-index in
    let ts = c.args.members.now in
    let smaller : nodes (shape_of c.member-item.result) < all_nodes (shapes_of ts) =
    subst (λ (x : GvType). nodes (shape_of x) < all_nodes (shapes_of ts)) (sym c.member-item.is) (member_nodes ts i c.member-item.result c.loop-member-test.true) in
    search rules

pub extent_of_members-loop-member-preserved : goal.extent_of_members-loop-member-preserved
extent_of_members-loop-member-preserved t c =
    let l = c.loop-member in
    let ts = c.args.members.now in
    let x = c.member-item.result in
    let here : drop l.member-index ts ≡ x ∷ drop (l.member-index + 1) ts =
    drop_more ts l.member-index x c.loop-member-test.true ∙ ap (λ (y : GvType). y ∷ drop (l.member-index + 1) ts) (sym c.member-item.is) in
    so_far-more l.run c.extent_of.result c.with_member-run.result (shape_of x) (shapes_of (drop (l.member-index + 1) ts)) (shapes_of ts)
    (subst (λ (ys : List GvType). SoFar l.run (shapes_of ys) (shapes_of ts)) here l.invariant)
    c.extent_of.ensures c.with_member-run.ensures.align c.with_member-run.ensures.end
