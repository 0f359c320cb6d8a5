use Rattle.std.proofs.Common.{arith}
use Rattle.ost_head.proofs.Loaded.{loads_small}
use Rattle.ost_head.proofs.small.load_sized.Goals as goal

pub returns-clause-tells : goal.returns-clause-tells
returns-clause-tells g c held told mode node =
    loads_small c.args.most (held c.args.url.now c.args.path.now) mode c.args.size c.in_ok-read_whole.field-0 node (omega (arith, c.if-size-most.false)) (c.in_ok-read_whole.ensures.tells held told)
