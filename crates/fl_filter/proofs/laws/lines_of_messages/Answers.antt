use Rattle.std.proofs.Common.{refl}
use Rattle.hex.specs.Hex.{encode_with}
use Rattle.fl_filter.proofs.laws.lines_of_messages.Goals as goal

pub returns-clause-bus : goal.returns-clause-bus
unfolding encode_with
returns-clause-bus c = refl

pub returns-clause-client : goal.returns-clause-client
unfolding encode_with
returns-clause-client c = refl
