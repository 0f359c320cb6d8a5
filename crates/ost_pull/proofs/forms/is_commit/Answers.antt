use Rattle.ost_object.specs.Views.{root_view}
use Rattle.ost_pull.proofs.Read.{commit_keeps}
use Rattle.ost_pull.proofs.forms.is_commit.Goals as goal

pub returns-in-Ok : goal.returns-in-Ok
returns-in-Ok c is = commit_keeps c.args.bytes.now (root_view c.in-Ok.field-0) c.in-Ok.ensures
