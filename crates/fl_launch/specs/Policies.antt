-- The policies of a launched application on the D-Bus buses.
use Rattle.std.specs.Prelude.{◌≡◌, ℕ, Bool, true, false, not, ◌&&◌, ◌||◌, ◌==◌, List, [], ◌∷◌, ◌++◌, codes, if◌then◌else◌}
use Rattle.std.specs.List.{list_all, flat_map}
use Rattle.fl_meta.specs.declared.permission.PermList.{PermList}
use Rattle.fl_meta.specs.declared.permission.PermList.TheVariants as lists
use Rattle.fl_meta.specs.declared.permission.Value.{Value}
use Rattle.fl_meta.specs.declared.permission.Value.TheVariants as values
use Rattle.fl_meta.specs.declared.permission.Mention.{Mention}
use Rattle.fl_meta.specs.Order.{place_of}
use Rattle.fl_meta.specs.Patterns.{is_pattern}
use Rattle.fl_context.specs.Grants.{is_granted}
use Rattle.fl_override.specs.Written.{is_in}
use Rattle.bus_policy.specs.declared.level.Level.{Level}
use Rattle.bus_policy.specs.declared.level.Level.TheVariants as levels
use Rattle.bus_policy.specs.declared.policy.Grant.TheVariants as grants
use Rattle.bus_policy.specs.declared.policy.PolicyRule.{PolicyRule}

-- Tests whether a value is a level of a bus
abbrev pub is_level : Value → Bool
is_level values.NoBus = true
is_level values.See = true
is_level values.Talk = true
is_level values.Own = true
is_level value = false

-- The level of a bus permission's value
abbrev pub level_of : Value → Level
level_of values.See = levels.See
level_of values.Talk = levels.Talk
level_of values.Own = levels.Own
level_of value = levels.None

-- Tests whether a mention, if it is one of the bus, has a pattern as its name and a level as its
-- value
abbrev pub is_rule : PermList → Mention → Bool
is_rule bus m = not (is_in bus m) || (is_pattern m.permission.name && is_level m.value)

-- The mentions of the bus are patterns with levels
abbrev pub AreRules : PermList → List Mention → Type 0
AreRules bus mentions = list_all (is_rule bus) mentions ≡ true

-- The list is that of a bus
abbrev pub IsBus : PermList → Type 0
IsBus list = (place_of list == 7 || place_of list == 8) ≡ true

-- ---- the policies

-- The rule that gives a pattern a level
abbrev pub rule : List ℕ → Level → PolicyRule
rule pattern level = record { pattern = pattern; grant = grants.Level level }

-- Tests whether a mention grants a pattern of names on the bus. By `grants_are_rules` the mentions
-- of a bus in files and options are patterns with levels, so no grant is left out.
abbrev pub is_on_bus : PermList → Mention → Bool
is_on_bus bus m = is_in bus m && (is_granted m.value && is_pattern m.permission.name)

-- The rule of a mention, if it grants a pattern of names on the bus
abbrev pub rule_of : PermList → Mention → List PolicyRule
rule_of bus m = if is_on_bus bus m then rule m.permission.name (level_of m.value) ∷ [] else []

-- The rules of all granted patterns of names on the bus
abbrev pub rules_of : PermList → List Mention → List PolicyRule
rules_of bus mentions = flat_map (rule_of bus) mentions

-- The pattern of the application's own names: its ID and all names below it
abbrev pub own_pattern : List ℕ → List ℕ
own_pattern id = id ++ codes ".*"

-- The rules on the session bus: the application may own its own names, may talk to the portals, and
-- has each granted pattern at its level
unfoldable pub session_rules : List ℕ → List Mention → List PolicyRule
session_rules id mentions = rule (own_pattern id) levels.Own
    ∷ rule (codes "org.freedesktop.portal.*") levels.Talk ∷ rules_of lists.SessionBus mentions

-- The rules on the system bus: the application has each granted pattern at its level
abbrev pub system_rules : List Mention → List PolicyRule
system_rules mentions = rules_of lists.SystemBus mentions
