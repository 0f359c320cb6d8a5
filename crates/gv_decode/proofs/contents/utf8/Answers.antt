use Rattle.std.proofs.Common.{rules}
use Rattle.gv_decode.proofs.Basics.{kept-is, kept-not}
use Rattle.gv_decode.proofs.contents.utf8.Goals as goal

pub returns-in-Ok : goal.returns-in-Ok
returns-in-Ok c = kept-is c.args.bytes.now c.in-Ok.text.now (search rules) (search rules)

pub returns-in-Err : goal.returns-in-Err
returns-in-Err c = kept-not c.args.bytes.now (search rules)
