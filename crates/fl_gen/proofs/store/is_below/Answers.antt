use Rattle.fl_gen.proofs.Above.{above_is}
use Rattle.fl_gen.proofs.store.is_below.Goals as goal

pub returns : goal.returns
returns c = above_is c.args.path.now c.args.row.now.path c.is_above.result c.is_above.ensures
