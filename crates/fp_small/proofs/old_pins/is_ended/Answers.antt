use Rattle.std.proofs.Common.{sym, ◌∙◌}
use Rattle.fp_small.proofs.OldReads.{some_byte, is_ended-last}
use Rattle.fp_small.proofs.old_pins.is_ended.Goals as goal

pub returns-else-is_empty : goal.returns-else-is_empty
returns-else-is_empty c = is_ended-last c.args.bytes.now (some_byte c.args.bytes.now (sym c.is_empty.ensures ∙ c.if-is_empty.false))
