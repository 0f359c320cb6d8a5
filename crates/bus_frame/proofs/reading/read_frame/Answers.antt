use Rattle.std.proofs.Common.{arith}
use Rattle.bus_frame.proofs.MessageLaws.{says_message, says_broken, says_lacking, every_message, every_broken, every_lacking}
use Rattle.bus_frame.proofs.reading.read_frame.Goals as goal

pub returns-clause-message : goal.returns-clause-message
returns-clause-message c = says_message c.frame_at_front.result c.args.bytes.now (λ i. omega (arith, c.type_inv.bytes i)) c.frame_at_front.ensures

pub returns-clause-every_message : goal.returns-clause-every_message
returns-clause-every_message c = λ m rest h parts is. every_message c.frame_at_front.result c.args.bytes.now m rest h c.frame_at_front.ensures parts is

pub returns-clause-broken : goal.returns-clause-broken
returns-clause-broken c = says_broken c.frame_at_front.result c.args.bytes.now (λ i. omega (arith, c.type_inv.bytes i)) c.frame_at_front.ensures

pub returns-clause-every_broken : goal.returns-clause-every_broken
returns-clause-every_broken c = λ m rest rule parts is. every_broken c.frame_at_front.result c.args.bytes.now m rest rule (λ i. omega (arith, c.type_inv.bytes i)) c.frame_at_front.ensures parts is

pub returns-clause-lacking : goal.returns-clause-lacking
returns-clause-lacking c = says_lacking c.frame_at_front.result c.args.bytes.now c.frame_at_front.ensures

pub returns-clause-every_lacking : goal.returns-clause-every_lacking
returns-clause-every_lacking c = λ n is. every_lacking c.frame_at_front.result c.args.bytes.now n c.frame_at_front.ensures is
