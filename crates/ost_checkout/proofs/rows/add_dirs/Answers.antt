use Rattle.ost_object.specs.Views.{dir_row}
use Rattle.ost_checkout.specs.Rows.{row_of_dir}
use Rattle.ost_checkout.proofs.Filled.{dir_good, next_added}
use Rattle.ost_checkout.proofs.rows.add_dirs.Goals as goal

pub dir_row-requires : goal.dir_row-requires
dir_row-requires c = dir_good c.args.dirs.now c.loop-dir.dir-index c.dir-item.result c.loop-dir-test.true c.dir-item.is c.requires

pub loop-dir-preserved : goal.loop-dir-preserved
loop-dir-preserved c =
    next_added dir_row (row_of_dir c.args.folder.now) c.args.dirs.now c.loop-dir.dir-index c.dir-item.result c.args.rows.now.items c.loop-dir-test.true c.dir-item.is c.loop-dir.invariant c.in_ok-dir_row.ensures c.in_ok-push.ensures.items
