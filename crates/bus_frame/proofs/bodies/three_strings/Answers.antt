use Rattle.std.proofs.Common.{arith}
use Rattle.bus_frame.proofs.BodyLaws.{gives_is, three_law}
use Rattle.bus_frame.proofs.bodies.three_strings.Goals as goal

pub returns-clause-texts : goal.returns-clause-texts
returns-clause-texts c = three_law c.args.header.now c.args.message.now _ (λ i. omega (arith, c.type_inv.message i)) (gives_is (λ t. (t.0.now, t.1.now, t.2.now)) c.texts_of_three.result _ c.texts_of_three.ensures)
