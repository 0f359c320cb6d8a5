use Rattle.gv_value.proofs.Known.{AllBelow-fits}
use Rattle.gv_value.proofs.parts.Parts.of_bytes.Goals as goal

pub returns-clause-held : goal.returns-clause-held
returns-clause-held c = AllBelow-fits c.args.bytes.now c.type_inv.bytes
