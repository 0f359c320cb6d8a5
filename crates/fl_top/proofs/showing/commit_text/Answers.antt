use Rattle.std.proofs.Common.{sym}
use Rattle.ost_object.specs.Views.{commit_view}
use Rattle.fl_top.specs.Answer.{commit_shown}
use Rattle.fl_top.proofs.Shown.{commit_told, commit_bad, ending}
use Rattle.fl_top.proofs.showing.commit_text.Goals as goal

pub returns-in_ok-said_of_commit-in-Ok : goal.returns-in_ok-said_of_commit-in-Ok
returns-in_ok-said_of_commit-in-Ok c = commit_told c.args.bytes.now c.in_ok-said_of_commit-in-Ok.field-0 (commit_view c.in-Ok.commit) c.in-Ok.ensures c.in_ok-said_of_commit-in-Ok.ensures

pub returns-in-Err : goal.returns-in-Err
returns-in-Err c = ending (commit_shown c.args.bytes.now) (commit_bad c.args.bytes.now c.in-Err.error c.in-Err.ensures) (sym c.malformed.ensures)
