use Rattle.std.proofs.Common.{arith}
use Rattle.gv_value.proofs.Known.{AllBelow-fits}
use Rattle.gv_decode.proofs.Basics.{double-is}
use Rattle.gv_decode.proofs.contents.double_of.Goals as goal

pub returns-in-len8 : goal.returns-in-len8
returns-in-len8 c = double-is c.args.bytes.now (AllBelow-fits c.args.bytes.now c.type_inv.bytes) (omega (arith, c.in-len8.len_at_least, c.in-len8.len_below))
