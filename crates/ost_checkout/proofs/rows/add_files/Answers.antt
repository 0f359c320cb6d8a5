use Rattle.ost_object.specs.Views.{file_row}
use Rattle.ost_checkout.specs.Rows.{row_of_file}
use Rattle.ost_checkout.proofs.Filled.{file_good, next_added}
use Rattle.ost_checkout.proofs.rows.add_files.Goals as goal

pub file_row-requires : goal.file_row-requires
file_row-requires c = file_good c.args.files.now c.loop-file.file-index c.file-item.result c.loop-file-test.true c.file-item.is c.requires

pub loop-file-preserved : goal.loop-file-preserved
loop-file-preserved c =
    next_added file_row (row_of_file c.args.folder.now) c.args.files.now c.loop-file.file-index c.file-item.result c.args.rows.now.items c.loop-file-test.true c.file-item.is c.loop-file.invariant c.in_ok-file_row.ensures c.in_ok-push.ensures.items
