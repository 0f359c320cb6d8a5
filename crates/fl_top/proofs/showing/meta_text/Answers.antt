use Rattle.std.proofs.Common.{sym}
use Rattle.ost_object.specs.Views.{meta_view}
use Rattle.fl_top.specs.Answer.{meta_shown}
use Rattle.fl_top.proofs.Shown.{meta_told, meta_bad, ending}
use Rattle.fl_top.proofs.showing.meta_text.Goals as goal

pub returns-in_ok-said_of_meta-in-Ok : goal.returns-in_ok-said_of_meta-in-Ok
returns-in_ok-said_of_meta-in-Ok c = meta_told c.args.bytes.now c.in_ok-said_of_meta-in-Ok.field-0 (meta_view c.in-Ok.meta) c.in-Ok.ensures c.in_ok-said_of_meta-in-Ok.ensures

pub returns-in-Err : goal.returns-in-Err
returns-in-Err c = ending (meta_shown c.args.bytes.now) (meta_bad c.args.bytes.now c.in-Err.error c.in-Err.ensures) (sym c.malformed.ensures)
