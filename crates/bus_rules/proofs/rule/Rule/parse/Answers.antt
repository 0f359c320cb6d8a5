use Rattle.std.proofs.Common.{◌≡◌}
use Rattle.bus_rules.specs.declared.rule.RuleError.TheVariants.{Bad, NoMemory}
use Rattle.bus_rules.specs.Rules.{rule_of}
use Rattle.bus_rules.proofs.rule.Rule.parse.Goals as goal

apart : Bad ≡ NoMemory → ⊥
apart e = cc

pub returns-in_err-own-in-Some-clause-bad : goal.returns-in_err-own-in-Some-clause-bad
returns-in_err-own-in-Some-clause-bad c = (λ e. absurd (apart (rw e at c.from_residual.ensures).1), λ none. absurd (none (rule_of c.in-Some.raw) c.in-Some.ensures))
