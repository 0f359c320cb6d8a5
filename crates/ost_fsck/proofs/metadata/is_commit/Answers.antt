use Rattle.ost_model.specs.Readers.{commit_read}
use Rattle.ost_object.specs.Views.{root_in, root_view}
use Rattle.ost_fsck.proofs.Judged.{parts_keep, parts_broken}
use Rattle.ost_fsck.proofs.metadata.is_commit.Goals as goal

pub returns-in-Ok-clause-tells : goal.returns-in-Ok-clause-tells
returns-in-Ok-clause-tells c = parts_keep root_in (commit_read c.args.bytes.now) (root_view c.in-Ok.field-0) c.in-Ok.ensures

pub returns-in-Err-Malformed-clause-tells : goal.returns-in-Err-Malformed-clause-tells
returns-in-Err-Malformed-clause-tells c = parts_broken root_in (commit_read c.args.bytes.now) _ c.in-Err-Malformed.field-0 c.in-Err-Malformed.field-0-is c.in-Err-Malformed.ensures
