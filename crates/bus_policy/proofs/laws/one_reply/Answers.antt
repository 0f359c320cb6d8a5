use Rattle.std.proofs.Common.{refl}
use Rattle.bus_policy.specs.Driver.{handler_of}
use Rattle.bus_policy.specs.Verdicts.{verdict_in}
use Rattle.bus_policy.proofs.laws.one_reply.Goals as goal

pub returns-clause-first : goal.returns-clause-first
unfolding verdict_in handler_of
returns-clause-first c = refl

pub returns-clause-second : goal.returns-clause-second
unfolding verdict_in handler_of
returns-clause-second c = refl

pub returns-clause-unasked : goal.returns-clause-unasked
unfolding verdict_in handler_of
returns-clause-unasked c = refl
