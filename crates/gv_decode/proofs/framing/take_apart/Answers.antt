use Rattle.std.proofs.Common.{rules}
use Rattle.gv_value.proofs.Known.{AllBelow-fits}
use Rattle.gv_decode.proofs.Tables.{offsets_after-is, offsets_after-not}
use Rattle.gv_decode.proofs.framing.take_apart.Goals as goal

pub returns-then-table-count-clause-offsets : goal.returns-then-table-count-clause-offsets
returns-then-table-count-clause-offsets c = offsets_after-not c.args.before c.args.count c.args.bytes.now (λ e. search rules)

pub returns-clause-offsets : goal.returns-clause-offsets
returns-clause-offsets c =
    offsets_after-is c.args.before c.args.count c.offset_width-width_here.result c.args.bytes.now c.split_at.result.1.now (AllBelow-fits c.args.bytes.now c.type_inv.bytes)
    (search rules) (search rules) (search rules) (search rules) (search rules)
