use Rattle.gv_value.proofs.Known.{AllBelow-fits}
use Rattle.gv_value.proofs.parts.Parts.of_eight.Goals as goal

pub returns-clause-held : goal.returns-clause-held
returns-clause-held c = (c.requires, AllBelow-fits c.args.eight.now c.type_inv.eight)
