use Rattle.std.proofs.Common.{arith}
use Rattle.bus_frame.proofs.BodyLaws.{gives_is, first_law}
use Rattle.bus_frame.proofs.bodies.first_string.Goals as goal

pub returns-clause-text : goal.returns-clause-text
returns-clause-text c = first_law c.args.header.now c.args.message.now _ (λ i. omega (arith, c.type_inv.message i)) (gives_is (λ t. t.now) c.text_at_start.result _ c.text_at_start.ensures)
