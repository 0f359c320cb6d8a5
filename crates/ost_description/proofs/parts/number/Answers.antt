use Rattle.std.proofs.Common.{rules}
use Rattle.ost_description.proofs.PartLemmas.{digits_are_text}
use Rattle.ost_description.proofs.parts.number.Goals as goal

pub returns-in-Err : goal.returns-in-Err
returns-in-Err c = absurd (c.in-Err.ensures.cases.0 (digits_are_text c.args.text.now (search rules)))
