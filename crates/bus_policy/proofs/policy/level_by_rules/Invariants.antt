use Rattle.std.proofs.Common.{◌≡◌, drop}
use Rattle.bus_policy.specs.Levels.{greater, rules_level}
use Rattle.bus_policy.proofs.policy.level_by_rules.Given as goal

abbrev pub invariant-loop-rule : goal.invariant-loop-rule
invariant-loop-rule l = greater l.level (rules_level (drop l.rule-index l.rules) l.name) ≡ rules_level l.rules l.name
