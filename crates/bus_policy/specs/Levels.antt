-- Levels, patterns of names, and what a policy grants to a name.
use Rattle.std.specs.Prelude.{ℕ, ◌-◌, Bool, true, false, ◌||◌, ◌&&◌, nat_eq, nat_le, nat_lt, if◌then◌else◌, List, [], ◌∷◌, length, take, codes}
use Rattle.std.specs.List.{ends_with}
use Rattle.std.specs.Str.{bytes_eq}
use Rattle.bus_frame.specs.declared.header.Header.{Header}
use Rattle.bus_frame.specs.declared.names.Alphabet.TheVariants.{WellKnown}
use Rattle.bus_frame.specs.Names.{is_well_known, are_elements}
use Rattle.bus_rules.specs.Rules.{is_within, rule_matches}
use Rattle.bus_policy.specs.declared.level.Level.{Level}
use Rattle.bus_policy.specs.declared.level.Level.TheVariants as level
use Rattle.bus_policy.specs.declared.policy.RuleKind.{RuleKind}
use Rattle.bus_policy.specs.declared.policy.RuleKind.TheVariants as kind
use Rattle.bus_policy.specs.declared.policy.Grant.{Grant}
use Rattle.bus_policy.specs.declared.policy.Grant.TheVariants as grant
use Rattle.bus_policy.specs.declared.policy.PolicyRule.{PolicyRule}

-- ---- levels

-- The rank of a level, from 0 for `None` to 3 for `Own`
abbrev pub rank : Level → ℕ
rank level.None = 0
rank level.See = 1
rank level.Talk = 2
rank level.Own = 3

-- The greater of two levels
abbrev pub greater : Level → Level → Level
greater a b = if nat_lt (rank a) (rank b) then b else a

-- Tests whether a level is `wanted` or a higher one
abbrev pub is_at_least : Level → Level → Bool
is_at_least wanted l = nat_le (rank wanted) (rank l)

-- ---- patterns

-- Tests whether a pattern ends with `.*`
abbrev pub is_open : List ℕ → Bool
is_open pattern = ends_with nat_eq pattern (codes ".*")

-- NAME of a pattern `NAME.*`
abbrev pub stem : List ℕ → List ℕ
stem pattern = take (length pattern - 2) pattern

-- Tests whether a text is a pattern: a well-known name, or one or more elements of one and then
-- `.*`
unfoldable pub is_pattern : List ℕ → Bool
is_pattern pattern =
    is_well_known pattern || (is_open pattern && are_elements WellKnown 46 (stem pattern))

-- Tests whether a pattern matches a name: NAME matches itself, and `NAME.*` matches NAME and what
-- begins with `NAME.`
unfoldable pub pattern_matches : List ℕ → List ℕ → Bool
pattern_matches pattern name =
    if is_open pattern then is_within 46 name (stem pattern)
    else bytes_eq name pattern

-- ---- policies

-- The level of the names of a rule's pattern. A rule for messages makes them visible.
abbrev pub given_level : Grant → Level
given_level (grant.Level l) = l
given_level (grant.Rule kind rule) = level.See

-- The level that one rule gives to a name
abbrev pub level_by : PolicyRule → List ℕ → Level
level_by rule name =
    if pattern_matches rule.pattern name then given_level rule.grant else level.None

-- The greatest level that the rules give to a name
abbrev pub rules_level : List PolicyRule → List ℕ → Level
rules_level [] name = level.None
rules_level (rule ∷ rules) name = greater (level_by rule name) (rules_level rules name)

-- Tests whether two rules are both for calls or both for broadcasts
abbrev pub same_kind : RuleKind → RuleKind → Bool
same_kind kind.Call kind.Call = true
same_kind kind.Call kind.Broadcast = false
same_kind kind.Broadcast kind.Call = false
same_kind kind.Broadcast kind.Broadcast = true

-- Tests whether a grant lets a call or a broadcast with this header pass
abbrev pub allows : RuleKind → Header → Grant → Bool
allows kind header (grant.Level l) = false
allows kind header (grant.Rule other rule) = same_kind kind other && rule_matches rule header
