use Rattle.fl_options.proofs.RuleOptions.{options}
use Rattle.fl_options.proofs.laws_of_rules.rules_are_options.Goals as goal

pub returns : goal.returns
returns c = options
