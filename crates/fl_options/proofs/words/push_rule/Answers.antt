use Rattle.std.proofs.Common.{◌≡◌, ◌++◌, Option, OnOk, ap, subst}
use Rattle.std.specs.Prelude.{option_and_then, option_to_list}
use Rattle.bus_policy.specs.declared.policy.PolicyRule.{PolicyRule}
use Rattle.fl_options.specs.Rules.{message_rule}
use Rattle.fl_options.proofs.RuleOptions.{added}
use Rattle.fl_options.proofs.words.push_rule.Goals as goal

pub returns-in-Some : goal.returns-in-Some
returns-in-Some c =
    let kind = c.args.kind in
    subst (λ (o : Option PolicyRule). OnOk c.unless_bad.result (c.add_rule.new.self ≡ c.args.policy.now ++ option_to_list o)) (ap (option_and_then (message_rule kind)) c.in-Some.ensures)
    (added kind c.in-Some.pattern.now c.in-Some.rule.now c.args.policy.now c.add_rule.new.self c.add_rule.result c.unless_bad.result
    c.add_rule.ensures.ok c.add_rule.ensures.bad_pattern c.add_rule.ensures.bad c.add_rule.ensures.err c.unless_bad.ensures)
