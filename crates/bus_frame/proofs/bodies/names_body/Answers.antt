use Rattle.std.proofs.Common.{arith}
use Rattle.bus_frame.proofs.BodyLaws.{names_ok}
use Rattle.bus_frame.proofs.bodies.names_body.Goals as goal

pub returns-clause-names : goal.returns-clause-names
returns-clause-names c = names_ok c.args.header.now c.args.message.now c.names_of.result (λ i. omega (arith, c.type_inv.message i)) c.names_of.ensures
