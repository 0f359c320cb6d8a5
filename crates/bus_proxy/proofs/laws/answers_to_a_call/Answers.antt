use Rattle.std.proofs.Common.{refl}
use Rattle.bus_frame.specs.Writing.{error_bytes}
use Rattle.bus_policy.specs.Levels.{pattern_matches}
use Rattle.bus_policy.specs.Driver.{handler_of}
use Rattle.bus_policy.specs.Verdicts.{verdict_in}
use Rattle.bus_proxy.proofs.laws.answers_to_a_call.Goals as goal

pub returns-clause-talk : goal.returns-clause-talk
unfolding verdict_in handler_of pattern_matches error_bytes
returns-clause-talk c = refl

pub returns-clause-hidden : goal.returns-clause-hidden
unfolding verdict_in handler_of pattern_matches error_bytes
returns-clause-hidden c = refl
