use Rattle.fl_launch.proofs.Patterns.{portal_pattern}
use Rattle.fl_launch.proofs.policies.policy_of.Goals as goal

pub add_rule-requires : goal.add_rule-requires
add_rule-requires c = portal_pattern
