-- Leave by flags that aren't there.
use Rattle.std.proofs.Common.{◌≡◌, ℕ, Bool, false, List, [], ◌∷◌, refl, sym, ap, ◌∙◌}
use Rattle.std.specs.Prelude.{◌||◌, ◌&&◌, map}
use Rattle.std.specs.List.{list_any}
use mathlib.Core.Bool.{or-false}
use Rattle.bus_frame.specs.declared.header.Header.{Header}
use Rattle.bus_policy.specs.declared.policy.RuleKind.{RuleKind}
use Rattle.bus_policy.specs.declared.policy.PolicyRule.{PolicyRule}
use Rattle.bus_policy.specs.Levels.{allows, pattern_matches}
use Rattle.bus_policy.specs.Watching.{any_leave, is_meant}

pub no_flags : (kind : RuleKind) (peer : List ℕ) (header : Header) (rules : List PolicyRule) → any_leave kind peer header rules [] ≡ any_leave kind peer header rules (map (λ rule. false) rules)
no_flags kind peer header [] = refl
no_flags kind peer header (rule ∷ rules) =
    ap (λ (b : Bool). (allows kind header rule.grant && b) || any_leave kind peer header rules []) (sym (or-false (pattern_matches rule.pattern peer)))
    ∙ ap (λ (b : Bool). (allows kind header rule.grant && (pattern_matches rule.pattern peer || false)) || b) (no_flags kind peer header rules)

-- flags that tell which rules speak of some names
pub all_flags : (kind : RuleKind) (peer : List ℕ) (header : Header) (names : List (List ℕ)) (rules : List PolicyRule)
    → any_leave kind peer header rules (map (λ rule. list_any (pattern_matches rule.pattern) names) rules) ≡ list_any (λ rule. allows kind header rule.grant && is_meant names peer rule) rules
all_flags kind peer header names [] = refl
all_flags kind peer header names (rule ∷ rules) = ap (λ (b : Bool). (allows kind header rule.grant && is_meant names peer rule) || b) (all_flags kind peer header names rules)
