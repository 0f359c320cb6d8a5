-- The rules of a filter as words, after xdg-dbus-proxy(1): `--see=B`, `--talk=B`, `--own=B`,
-- `--call=B=RULE` and `--broadcast=B=RULE`. B is a pattern of bus names.
use Rattle.std.specs.Prelude.{ℕ, ◌-◌, Bool, ◌||◌, ◌==◌, nat_eq, List, [], ◌∷◌, length, take, codes, Option, Some, None, option_map, option_and_then, option_to_list, flat_map, if◌then◌else◌}
use Rattle.std.specs.List.{ends_with}
use Rattle.std.specs.Option.{is_some}
use Rattle.std.specs.Str.{bytes_eq}
use Rattle.fp_keyfile.specs.Lines.{split_at}
use Rattle.bus_frame.specs.Names.{is_interface, is_member, is_path}
use Rattle.bus_rules.specs.declared.rule.Members.{Members}
use Rattle.bus_rules.specs.declared.rule.Members.TheVariants.{All, Of, One}
use Rattle.bus_rules.specs.declared.rule.Objects.{Objects}
use Rattle.bus_rules.specs.declared.rule.Objects.TheVariants.{At, Below}
use Rattle.bus_rules.specs.declared.rule.Rule.{Rule}
use Rattle.bus_policy.specs.declared.level.Level.{Level}
use Rattle.bus_policy.specs.declared.level.Level.TheVariants as level
use Rattle.bus_policy.specs.declared.policy.RuleKind.{RuleKind}
use Rattle.bus_policy.specs.declared.policy.RuleKind.TheVariants as kind
use Rattle.bus_policy.specs.declared.policy.Grant.{Grant}
use Rattle.bus_policy.specs.declared.policy.Grant.TheVariants as grant
use Rattle.bus_policy.specs.declared.policy.PolicyRule.{PolicyRule}
use Rattle.bus_policy.specs.Levels.{is_pattern}

-- ---- a rule of calls or of broadcasts, read

-- The parts before and after the last c in b ∷ bs, given those of bs
abbrev pub before_last : ℕ → ℕ → List ℕ → Option (List ℕ × List ℕ) → Option (List ℕ × List ℕ)
before_last c b bs (Some parts) = Some (b ∷ parts.0, parts.1)
before_last c b bs None = if b == c then Some ([], bs) else None

-- The parts before and after the last c
abbrev pub split_last : ℕ → List ℕ → Option (List ℕ × List ℕ)
split_last c [] = None
split_last c (b ∷ bs) = before_last c b bs (split_last c bs)

-- The members of an interface: all with `*` as the second part, or one with its name
abbrev pub members_with : List ℕ × List ℕ → Option Members
members_with parts =
    if is_interface parts.0
    then (if bytes_eq parts.1 (codes "*") then Some (Of parts.0)
    else (if is_member parts.1 then Some (One parts.0 parts.1) else None))
    else None

-- The members that a text stands for: `*`, `INTERFACE.*` or `INTERFACE.MEMBER`
abbrev pub members_read : List ℕ → Option Members
members_read text =
    if bytes_eq text (codes "*") then Some All
    else option_and_then members_with (split_last 46 text)

-- The objects at the path and below it; the empty path is that of all objects
abbrev pub below_read : List ℕ → Option Objects
below_read path = if length path == 0 || is_path path then Some (Below path) else None

-- The objects that a text stands for: `PATH`, `PATH/*`, or `/*`
abbrev pub objects_read : List ℕ → Option Objects
objects_read text =
    if ends_with nat_eq text (codes "/*") then below_read (take (length text - 2) text)
    else (if is_path text then Some (At text) else None)

-- The rule for these members and the objects of this path
abbrev pub on_objects : Option Members → List ℕ → Option Rule
on_objects members path =
    option_map (λ objects. record { members = members; objects = Some objects }) (objects_read path)

-- The rule of a text with an `@`: before it are members or nothing, and after it are objects
abbrev pub parts_read : List ℕ × List ℕ → Option Rule
parts_read parts =
    if length parts.0 == 0 then on_objects None parts.1
    else option_and_then (λ members. on_objects (Some members) parts.1) (members_read parts.0)

-- The rule of a text without an `@`, which is members
abbrev pub alone_read : List ℕ → Option Rule
alone_read text =
    option_map (λ members. record { members = Some members; objects = None }) (members_read text)

-- The rule of a text, given its parts before and after the first `@`, if it has one
abbrev pub rule_at : List ℕ → Option (List ℕ × List ℕ) → Option Rule
rule_at text None = alone_read text
rule_at text (Some parts) = parts_read parts

-- The rule that a text is, if it is one
unfoldable pub rule_read : List ℕ → Option Rule
rule_read text = rule_at text (split_at 64 text)

-- ---- the words

-- The level that the option of this name gives
abbrev pub level_named : List ℕ → Option Level
level_named name =
    if bytes_eq name (codes "--see") then Some level.See
    else (if bytes_eq name (codes "--talk") then Some level.Talk
    else (if bytes_eq name (codes "--own") then Some level.Own else None))

-- The kind of messages that the option of this name has a rule for
abbrev pub kind_named : List ℕ → Option RuleKind
kind_named name =
    if bytes_eq name (codes "--call") then Some kind.Call
    else (if bytes_eq name (codes "--broadcast") then Some kind.Broadcast else None)

-- The rule that gives this grant for the names of the pattern; None if the pattern is bad
abbrev pub on_names : Grant → List ℕ → Option PolicyRule
on_names given pattern =
    if is_pattern pattern then Some (record { pattern = pattern; grant = given }) else None

-- The rule for messages of this kind, of a pattern and the text of a rule
abbrev pub message_rule : RuleKind → List ℕ × List ℕ → Option PolicyRule
message_rule kind parts =
    option_and_then (λ rule. on_names (grant.Rule kind rule) parts.0) (rule_read parts.1)

-- The rule of an option that gives this level, or has a rule for messages of this kind
abbrev pub rule_with : Option Level → Option RuleKind → List ℕ → Option PolicyRule
rule_with (Some l) kind text = on_names (grant.Level l) text
rule_with None (Some kind) text = option_and_then (message_rule kind) (split_at 61 text)
rule_with None None text = None

-- The rule of the option with this name and this text after its `=`
abbrev pub rule_of_parts : List ℕ × List ℕ → Option PolicyRule
rule_of_parts parts = rule_with (level_named parts.0) (kind_named parts.0) parts.1

-- The rule that a word is, if it is one. The name of its option ends at the first `=`.
unfoldable pub word_rule : List ℕ → Option PolicyRule
word_rule word = option_and_then rule_of_parts (split_at 61 word)

-- Tests whether the word is a rule of a filter
abbrev pub is_rule : List ℕ → Bool
is_rule word = is_some (word_rule word)

-- The policy that words make: their rules in order
abbrev pub policy_of : List (List ℕ) → List PolicyRule
policy_of words = flat_map (λ word. option_to_list (word_rule word)) words
