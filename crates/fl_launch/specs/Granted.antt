-- The granted permissions of a launch, as groups of a key file.
use Rattle.std.specs.Prelude.{ℕ, Bool, false, ◌&&◌, nat_lt, nat_eq, List, [], ◌∷◌, ◌++◌, drop, codes, if◌then◌else◌}
use Rattle.std.specs.List.{filter, flat_map, starts_with}
use Rattle.std.specs.Option.{option_map_or}
use Rattle.fp_keyfile.specs.declared.group.Group.{Group}
use Rattle.fp_keyfile.specs.declared.group.Pair.{Pair}
use Rattle.fl_meta.specs.declared.permission.PermList.{PermList}
use Rattle.fl_meta.specs.declared.permission.PermList.TheVariants as lists
use Rattle.fl_meta.specs.declared.permission.Permission.{Permission}
use Rattle.fl_meta.specs.declared.permission.Mention.{Mention}
use Rattle.fl_meta.specs.Names.{key_of, unknown_lists}
use Rattle.fl_meta.specs.Order.{place_of}
use Rattle.fl_context.specs.Grants.{is_granted, value_in}
use Rattle.fl_override.specs.Written.{list_text, pair_if, group_if, file_with}

-- Tests whether a mention grants its permission
abbrev pub gives : Mention → Bool
gives m = is_granted m.value

-- The mentions that grant a permission
abbrev pub granted : List Mention → List Mention
granted grants = filter gives grants

-- Tests whether a list has known permissions
abbrev pub is_known : PermList → Bool
is_known list = nat_lt (place_of list) 9

-- Tests whether a mention grants a known permission
abbrev pub gives_known : Mention → Bool
gives_known m = is_known m.permission.list && gives m

-- The mentions that grant a known permission
abbrev pub known : List Mention → List Mention
known grants = filter gives_known grants

-- ---- the group of the unknown permissions

-- The key of a list in the group `Unknown`: the list's key without `unknown-`; empty for the other
-- lists
abbrev pub unknown_key : PermList → List ℕ
unknown_key list =
    if starts_with nat_eq (key_of list) (codes "unknown-") then drop 8 (key_of list) else []

-- The pair of a list of unknown permissions; none if the list is empty
abbrev pub unknown_pair : List Mention → PermList → List Pair
unknown_pair mentions list = pair_if (unknown_key list) (list_text list mentions)

-- The pairs of the group `Unknown`
abbrev pub unknown_pairs : List Mention → List Pair
unknown_pairs mentions = flat_map (unknown_pair mentions) unknown_lists

-- The groups of the granted permissions: the known ones as in an override, then the group `Unknown`
-- with the others
unfoldable pub granted_groups : List Mention → List Group
granted_groups grants =
    file_with (known grants) ++ group_if (codes "Unknown") (unknown_pairs (granted grants))

-- ---- the session bus

-- The permission for the socket of the session bus
abbrev pub session_bus : Permission
session_bus = record { list = lists.Sockets; name = codes "session-bus" }

-- Tests whether the socket of the session bus is granted
unfoldable pub has_session_bus : List Mention → Bool
has_session_bus grants = option_map_or is_granted (value_in grants session_bus) false
