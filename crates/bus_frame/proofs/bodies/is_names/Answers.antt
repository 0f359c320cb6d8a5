use Rattle.std.proofs.Common.{arith}
use Rattle.bus_frame.proofs.BodyLaws.{is_names_law}
use Rattle.bus_frame.proofs.bodies.is_names.Goals as goal

pub returns-clause-names : goal.returns-clause-names
returns-clause-names c = is_names_law c.args.header.now c.args.message.now c.has_names.result (λ i. omega (arith, c.type_inv.message i)) c.has_names.ensures
