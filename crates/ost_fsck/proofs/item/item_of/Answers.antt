use Rattle.std.proofs.Common.{◌∙◌, sym, ap}
use Rattle.ost_fsck.specs.Judging.{keeps_rules}
use Rattle.ost_fsck.proofs.Itemed.{file_is_item}
use Rattle.ost_fsck.proofs.item.item_of.Goals as goal

pub returns-in_ok-head-clause-tells : goal.returns-in_ok-head-clause-tells
returns-in_ok-head-clause-tells c = λ short id.
    let kept = c.in_ok-keeps_rules.ensures.tells ∙ ap (keeps_rules c.args.kind) c.as_slice.ensures in
    file_is_item id c.args.mode c.args.bytes c.requires short c.args.kind c.in_ok-head.head (sym c.if-branch.true ∙ kept) c.in_ok-head.ensures
