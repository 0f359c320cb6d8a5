use Rattle.ost_description.proofs.PartLemmas.{parsed, unparsed}
use Rattle.ost_description.proofs.parts.value.Goals as goal

pub returns-in-Ok : goal.returns-in-Ok
returns-in-Ok c = parsed c.args.digits.now c.parse.result c.in-Ok.number c.in-Ok.is c.requires c.parse.ensures.value.0

pub returns-in-Err : goal.returns-in-Err
returns-in-Err c = unparsed c.args.digits.now c.parse.result c.in-Err.field-0 c.in-Err.is c.requires c.parse.ensures.value.0
