use Rattle.std.proofs.Common.{refl}
use Rattle.bus_policy.specs.Driver.{handler_of}
use Rattle.bus_policy.proofs.laws.calls_of_the_bus.Goals as goal

pub returns-clause-no_interface : goal.returns-clause-no_interface
unfolding handler_of
returns-clause-no_interface c = refl

pub returns-clause-ping : goal.returns-clause-ping
unfolding handler_of
returns-clause-ping c = refl

pub returns-clause-no_ping : goal.returns-clause-no_ping
unfolding handler_of
returns-clause-no_ping c = refl

pub returns-clause-other_interface : goal.returns-clause-other_interface
unfolding handler_of
returns-clause-other_interface c = refl
