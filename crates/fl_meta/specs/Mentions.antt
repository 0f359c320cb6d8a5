-- The permissions that a key file mentions, in its order.
use Rattle.std.specs.Prelude.{ℕ, Bool, not, ◌&&◌, List, [], ◌∷◌, ◌++◌, Option, Some, None, codes, if◌then◌else◌}
use Rattle.std.specs.List.{list_any, flat_map}
use Rattle.std.specs.Str.{bytes_eq}
use Rattle.fp_keyfile.specs.declared.group.Group.{Group}
use Rattle.fp_keyfile.specs.declared.group.Pair.{Pair}
use Rattle.fl_meta.specs.declared.permission.PermList.{PermList}
use Rattle.fl_meta.specs.declared.permission.PermList.TheVariants as lists
use Rattle.fl_meta.specs.declared.permission.Value.{Value}
use Rattle.fl_meta.specs.declared.permission.Value.TheVariants as values
use Rattle.fl_meta.specs.declared.permission.Mention.{Mention}
use Rattle.fl_meta.specs.declared.mentions.Source.{Source}
use Rattle.fl_meta.specs.declared.mentions.Source.TheVariants as sources
use Rattle.fl_meta.specs.Names.{list_of_key, list_of_unknown_key, level_of}
use Rattle.fl_meta.specs.Patterns.{is_pattern}
use Rattle.fl_meta.specs.Separators.{is_semicolon, ends_escaped}
use Rattle.fl_meta.specs.Entries.{is_off, mention_of, list_mentions}

-- ---- the group `Context`: each key is a list; overrides also have keys for unknown names

-- The list, or else the list of unknown names with this key
abbrev pub or_unknown : Option PermList → List ℕ → Option PermList
or_unknown (Some list) key = Some list
or_unknown None key = list_of_unknown_key key

-- The list with this key, in a file from this source
abbrev pub list_at : Source → List ℕ → Option PermList
list_at sources.Metadata key = list_of_key key
list_at sources.Override key = or_unknown (list_of_key key) key

-- The mentions of a list's value, if there is such a list
abbrev pub context_mentions : Option PermList → List ℕ → List Mention
context_mentions None value = []
context_mentions (Some list) value = list_mentions list value

-- ---- the group `Environment`

-- The mention of a variable of the environment
abbrev pub variable_mentions : Pair → List Mention
variable_mentions p = mention_of lists.Environment p.key (values.Text p.value) ∷ []

-- ---- the groups of bus policies: each pair is a pattern and its level

-- The name of an unknown permission, for a pair whose pattern or level isn't known: KEY=VALUE
abbrev pub pair_name : Pair → List ℕ
pair_name p = p.key ++ 61 ∷ p.value

-- Tests whether a name can be an entry of a list: it has no `;`, doesn't begin with `!`, and
-- doesn't end in an odd number of backslashes
abbrev pub can_stand : List ℕ → Bool
can_stand name =
    not (list_any is_semicolon name) && (not (is_off name) && not (ends_escaped name))

-- The mention of an unknown permission with this name, if the name can be an entry of a list
abbrev pub odd_pair : PermList → List ℕ → List Mention
odd_pair unknown name = if can_stand name then mention_of unknown name values.On ∷ [] else []

-- The mention of a pair with this level, if any: a permission if the level and the pattern are
-- known, else an unknown permission
abbrev pub bus_with : PermList → PermList → Pair → Option Value → List Mention
bus_with list unknown p None = odd_pair unknown (pair_name p)
bus_with list unknown p (Some level) =
    if is_pattern p.key then mention_of list p.key level ∷ [] else odd_pair unknown (pair_name p)

-- The mention of a pair of a bus policy
abbrev pub bus_mentions : PermList → PermList → Pair → List Mention
bus_mentions list unknown p = bus_with list unknown p (level_of p.value)

-- ---- a pair, and a file

-- The mentions of a pair in the group with this name; none in other groups
unfoldable pub pair_mentions : Source → List ℕ → Pair → List Mention
pair_mentions source group p =
    if bytes_eq group (codes "Context") then context_mentions (list_at source p.key) p.value
    else (if bytes_eq group (codes "Environment") then variable_mentions p
    else (if bytes_eq group (codes "Session Bus Policy")
    then bus_mentions lists.SessionBus lists.UnknownSessionBus p
    else (if bytes_eq group (codes "System Bus Policy")
    then bus_mentions lists.SystemBus lists.UnknownSystemBus p else [])))

-- The mentions of a group, pair by pair
unfoldable pub group_mentions : Source → Group → List Mention
group_mentions source g = flat_map (pair_mentions source g.name) g.pairs

-- The mentions of a key file, group by group
unfoldable pub file_mentions : Source → List Group → List Mention
file_mentions source file = flat_map (group_mentions source) file
