use Rattle.std.proofs.Common.{lit<}
use Rattle.fp_keyfile.proofs.Cuts.{split_once_is, cut_is}
use Rattle.fp_keyfile.proofs.line.cut_at_equals.Goals as goal

pub returns : goal.returns
returns c = cut_is c.args.text.now c.split_once.result (split_once_is 61 c.args.text.now c.split_once.result c.split_once.ensures.cases (lit< tt))
