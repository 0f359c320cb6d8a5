use Rattle.std.proofs.Common.{◌≡◌, ◌++◌, ◌∙◌, ℕ, List, Option, Some, None, OnOk, ap, subst, sym}
use Rattle.std.specs.Prelude.{option_to_list}
use Rattle.std.proofs.lemmas.List.{append-nil}
use Rattle.bus_policy.specs.declared.level.Level.{Level}
use Rattle.bus_policy.specs.declared.policy.RuleKind.{RuleKind}
use Rattle.bus_policy.specs.declared.policy.PolicyRule.{PolicyRule}
use Rattle.fl_options.specs.Rules.{level_named, rule_with}
use Rattle.fl_options.proofs.RuleOptions.{word_cut}
use Rattle.fl_options.proofs.words.push_word.Goals as goal

pub returns-in-Some : goal.returns-in-Some
returns-in-Some c =
    let parts : List ℕ × List ℕ = (c.in-Some.name.now, c.in-Some.text.now) in
    let level = ap (λ (l : Option Level). rule_with l c.kind_named.result c.in-Some.text.now) c.level_named.ensures in
    let kind = ap (λ (k : Option RuleKind). rule_with (level_named c.in-Some.name.now) k c.in-Some.text.now) c.kind_named.ensures in
    subst (λ (o : Option PolicyRule). OnOk c.push_with.result (c.push_with.new.policy ≡ c.args.policy.now ++ option_to_list o)) (level ∙ kind ∙ word_cut c.args.word.now (Some parts) c.in-Some.ensures) c.push_with.ensures

pub returns-in-None : goal.returns-in-None
returns-in-None c = sym (append-nil c.args.policy.now) ∙ ap (λ (o : Option PolicyRule). c.args.policy.now ++ option_to_list o) (word_cut c.args.word.now None c.in-None.ensures)
