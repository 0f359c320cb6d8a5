use Rattle.std.proofs.Common.{sym}
use Rattle.ost_object.specs.Views.{tree_view}
use Rattle.fl_top.specs.Answer.{tree_shown}
use Rattle.fl_top.proofs.Shown.{tree_told, tree_bad, ending}
use Rattle.fl_top.proofs.showing.tree_text.Goals as goal

pub returns-in_ok-said_of_tree-in-Ok : goal.returns-in_ok-said_of_tree-in-Ok
returns-in_ok-said_of_tree-in-Ok c = tree_told c.args.bytes.now c.in_ok-said_of_tree-in-Ok.field-0 (tree_view c.in-Ok.tree) c.in-Ok.ensures c.in_ok-said_of_tree-in-Ok.ensures

pub returns-in-Err : goal.returns-in-Err
returns-in-Err c = ending (tree_shown c.args.bytes.now) (tree_bad c.args.bytes.now c.in-Err.error c.in-Err.ensures) (sym c.malformed.ensures)
