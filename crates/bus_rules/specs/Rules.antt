-- Rules: how they are written, and which messages they match (xdg-dbus-proxy(1)). Interfaces,
-- members and paths are those of the D-Bus specification's "Valid Names" and "Valid Object Paths".
use Rattle.std.specs.Prelude.{◌≡◌, ℕ, Bool, true, false, ◌||◌, ◌&&◌, ◌==◌, nat_eq, List, [], ◌∷◌, ◌++◌, length, codes, Option, Some, None, option_map}
use Rattle.std.specs.List.{starts_with}
use Rattle.std.specs.Str.{bytes_eq}
use Rattle.bus_frame.specs.declared.header.Header.{Header}
use Rattle.bus_frame.specs.Names.{is_interface, is_member, is_path}
use Rattle.bus_rules.specs.declared.rule.Members.{Members}
use Rattle.bus_rules.specs.declared.rule.Members.TheVariants.{All, Of, One}
use Rattle.bus_rules.specs.declared.rule.Objects.{Objects}
use Rattle.bus_rules.specs.declared.rule.Objects.TheVariants.{At, Below}
use Rattle.bus_rules.specs.declared.rule.Rule.{Rule}
use Rattle.bus_rules.specs.declared.reading.RawMembers.{RawMembers}
use Rattle.bus_rules.specs.declared.reading.RawMembers.TheVariants as members
use Rattle.bus_rules.specs.declared.reading.RawObjects.{RawObjects}
use Rattle.bus_rules.specs.declared.reading.RawObjects.TheVariants as objects
use Rattle.bus_rules.specs.declared.reading.RawRule.{RawRule}

-- ---- how rules are written

-- The text of members: `*`, `INTERFACE.*` or `INTERFACE.MEMBER`
abbrev pub members_text : Members → List ℕ
members_text All = codes "*"
members_text (Of interface) = interface ++ codes ".*"
members_text (One interface member) = interface ++ (codes "." ++ member)

-- The text of objects: `PATH`, `PATH/*`, or `/*` for all objects
abbrev pub objects_text : Objects → List ℕ
objects_text (At path) = path
objects_text (Below path) = path ++ codes "/*"

-- The text of a rule's members; empty if there are none
abbrev pub members_part : Option Members → List ℕ
members_part None = []
members_part (Some members) = members_text members

-- The text of a rule's objects, after `@`; empty if there are none
abbrev pub objects_part : Option Objects → List ℕ
objects_part None = []
objects_part (Some objects) = codes "@" ++ objects_text objects

-- The text of a rule
abbrev pub rule_text : Rule → List ℕ
rule_text rule = members_part rule.members ++ objects_part rule.objects

-- Tests whether members have a valid interface and a valid member name
abbrev pub are_members : Members → Bool
are_members All = true
are_members (Of interface) = is_interface interface
are_members (One interface member) = is_interface interface && is_member member

-- Tests whether objects have a valid path, which may be empty for those below it
abbrev pub are_objects : Objects → Bool
are_objects (At path) = is_path path
are_objects (Below path) = length path == 0 || is_path path

-- Tests whether a rule has one part or both, and each is valid
abbrev pub are_parts : Option Members → Option Objects → Bool
are_parts None None = false
are_parts (Some members) None = are_members members
are_parts None (Some objects) = are_objects objects
are_parts (Some members) (Some objects) = are_members members && are_objects objects

-- The text is this rule, which is valid
pub record IsRule (rule : Rule) (text : List ℕ) : Type 0 where
  pub valid : are_parts rule.members rule.objects ≡ true
  pub spelled : text ≡ rule_text rule

-- The text is no rule
abbrev pub IsNoRule : List ℕ → Type 0
IsNoRule text = (rule : Rule) → IsRule rule text → ⊥

-- ---- which messages rules match

-- Tests whether a header field is present and is this text
abbrev pub says : Option (List ℕ) → List ℕ → Bool
says None text = false
says (Some found) text = bytes_eq found text

-- Tests whether a message is one of these members
abbrev pub has_member : Members → Header → Bool
has_member All header = true
has_member (Of interface) header = says header.interface interface
has_member (One interface member) header =
    says header.interface interface && says header.member member

-- Tests whether a text is `above`, or begins with `above` and the separator
abbrev pub is_within : ℕ → List ℕ → List ℕ → Bool
is_within separator text above =
    bytes_eq text above || starts_with nat_eq text (above ++ separator ∷ [])

-- Tests whether a path is one of these objects
abbrev pub has_object : Objects → Option (List ℕ) → Bool
has_object objects None = false
has_object (At path) (Some found) = bytes_eq found path
has_object (Below path) (Some found) = is_within 47 found path

-- Tests whether a message is one of a rule's members; true for a rule without members
abbrev pub members_match : Option Members → Header → Bool
members_match None header = true
members_match (Some members) header = has_member members header

-- Tests whether a message is for one of a rule's objects; true for a rule without objects
abbrev pub objects_match : Option Objects → Header → Bool
objects_match None header = true
objects_match (Some objects) header = has_object objects header.path

-- Tests whether a rule matches a message. An absent part matches every message. A message without
-- an interface matches no rule that names one.
unfoldable pub rule_matches : Rule → Header → Bool
rule_matches rule header = members_match rule.members header && objects_match rule.objects header

-- ---- what is read from a text

-- The members that the code read
abbrev pub members_of : RawMembers → Members
members_of members.All = All
members_of (members.Of interface) = Of interface.now
members_of (members.One interface member) = One interface.now member.now

-- The objects that the code read
abbrev pub objects_of : RawObjects → Objects
objects_of (objects.At path) = At path.now
objects_of (objects.Below path) = Below path.now

-- The rule that the code read
abbrev pub rule_of : RawRule → Rule
rule_of raw = record {
  members = option_map members_of raw.members;
  objects = option_map objects_of raw.objects;
}

-- The text is these members, which are valid
abbrev pub NamesMembers : Members → List ℕ → Type 0
NamesMembers members text = (are_members members ≡ true) × (text ≡ members_text members)

-- The text is these objects, which are valid
abbrev pub NamesObjects : Objects → List ℕ → Type 0
NamesObjects objects text = (are_objects objects ≡ true) × (text ≡ objects_text objects)
