use Rattle.bus_rules.proofs.Spelling.{one}
use Rattle.bus_rules.proofs.laws.one_rule.Goals as goal

pub returns : goal.returns
returns c = one
