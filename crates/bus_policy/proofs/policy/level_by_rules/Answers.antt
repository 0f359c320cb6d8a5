use Rattle.std.proofs.Common.{sym, ◌∙◌}
use Rattle.bus_policy.specs.Levels.{rules_level}
use Rattle.bus_policy.proofs.Greatest.{greater_none, rules_next, rules_end}
use Rattle.bus_policy.proofs.policy.level_by_rules.Goals as goal

pub loop-rule-init : goal.loop-rule-init
loop-rule-init c = greater_none (rules_level c.args.rules.now c.args.name.now)

pub loop-rule-preserved : goal.loop-rule-preserved
loop-rule-preserved c =
    rules_next c.args.rules.now c.args.name.now c.loop-rule.rule-index c.loop-rule.level c.level_of.result c.or-level.result c.rule-item.result c.loop-rule-test.true c.rule-item.is c.level_of.ensures c.or-level.ensures c.loop-rule.invariant

pub returns : goal.returns
returns c = sym (rules_end c.args.rules.now c.args.name.now c.loop-rule.rule-index c.loop-rule.level c.loop-rule-test.false) ∙ c.loop-rule.invariant
