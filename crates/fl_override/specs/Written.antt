-- The key file of some mentions.
use Rattle.std.specs.Prelude.{◌≡◌, ℕ, Bool, true, List, [], ◌∷◌, ◌++◌, ◌==◌, length, codes, if◌then◌else◌}
use Rattle.std.specs.List.{flat_map}
use Rattle.std.specs.Str.{is_utf8}
use Rattle.fp_keyfile.specs.declared.group.Group.{Group}
use Rattle.fp_keyfile.specs.declared.group.Pair.{Pair}
use Rattle.fp_keyfile.specs.Grammar.{is_key, is_value}
use Rattle.fl_meta.specs.declared.permission.PermList.{PermList}
use Rattle.fl_meta.specs.declared.permission.PermList.TheVariants as lists
use Rattle.fl_meta.specs.declared.permission.Value.{Value}
use Rattle.fl_meta.specs.declared.permission.Value.TheVariants as values
use Rattle.fl_meta.specs.declared.permission.Mention.{Mention}
use Rattle.fl_meta.specs.declared.mentions.Source.TheVariants as sources
use Rattle.fl_meta.specs.Names.{key_of, word_of}
use Rattle.fl_meta.specs.Order.{place_of}
use Rattle.fl_meta.specs.Mentions.{pair_mentions}

-- ---- a list of the group `Context`

-- The entry of a name: `!` before it denies, `:ro` and `:create` after it are endings, and `rw` has
-- none
abbrev pub entry_with : Value → List ℕ → List ℕ
entry_with values.Off name = 33 ∷ name
entry_with values.Ro name = name ++ codes ":ro"
entry_with values.Create name = name ++ codes ":create"
entry_with value name = name

-- The entry of a mention, without the `;` that ends it
abbrev pub entry_text : Mention → List ℕ
entry_text m = entry_with m.value m.permission.name

-- The entry of a mention, followed by `;`
abbrev pub closed_entry : Mention → List ℕ
closed_entry m = entry_text m ++ 59 ∷ []

-- Tests whether the mention belongs to the list
abbrev pub is_in : PermList → Mention → Bool
is_in list m = place_of m.permission.list == place_of list

-- The entry of the mention with its `;`, if it belongs to the list
abbrev pub entry_in : PermList → Mention → List ℕ
entry_in list m = if is_in list m then closed_entry m else []

-- The entries of the list, each followed by `;`
unfoldable pub list_text : PermList → List Mention → List ℕ
list_text list mentions = flat_map (entry_in list) mentions

-- The pair with this key and value, if the value isn't empty
abbrev pub pair_if : List ℕ → List ℕ → List Pair
pair_if key value = if length value == 0 then [] else record { key = key; value = value } ∷ []

-- The pair of a list of the group `Context`, if the list has entries
abbrev pub list_pair : List Mention → PermList → List Pair
list_pair mentions list = pair_if (key_of list) (list_text list mentions)

-- The lists of the group `Context`, in the order in which they are written
abbrev pub context_lists : List PermList
context_lists = lists.Shared ∷ lists.Sockets ∷ lists.Devices ∷ lists.Features ∷ lists.Filesystems
    ∷ lists.Persistent
    ∷ lists.UnknownShared ∷ lists.UnknownSockets ∷ lists.UnknownDevices ∷ lists.UnknownFeatures
    ∷ lists.UnknownSessionBus ∷ lists.UnknownSystemBus ∷ []

-- The pairs of the group `Context`
unfoldable pub context_pairs : List Mention → List Pair
context_pairs mentions = flat_map (list_pair mentions) context_lists

-- ---- the groups whose keys are names

-- The pair of a mention whose key is the name of the permission
abbrev pub named_pair : Mention → Pair
named_pair m = record { key = m.permission.name; value = word_of m.value }

-- The pair of the mention, if it belongs to the list
abbrev pub named_in : PermList → Mention → List Pair
named_in list m = if is_in list m then named_pair m ∷ [] else []

-- The pairs of a group whose keys are the names of permissions
unfoldable pub named_pairs : PermList → List Mention → List Pair
named_pairs list mentions = flat_map (named_in list) mentions

-- ---- the file, without groups that have no pairs

-- The group with this name and these pairs, if there are any
abbrev pub group_if : List ℕ → List Pair → List Group
group_if name pairs = if length pairs == 0 then [] else record { name = name; pairs = pairs } ∷ []

-- The key file of the mentions
unfoldable pub file_with : List Mention → List Group
file_with mentions =
    group_if (codes "Context") (context_pairs mentions)
    ++ (group_if (codes "Environment") (named_pairs lists.Environment mentions)
    ++ (group_if (codes "Session Bus Policy") (named_pairs lists.SessionBus mentions)
    ++ group_if (codes "System Bus Policy") (named_pairs lists.SystemBus mentions)))

-- ---- which mentions can be written

-- The group in which a list is written
abbrev pub group_of : PermList → List ℕ
group_of lists.Environment = codes "Environment"
group_of lists.SessionBus = codes "Session Bus Policy"
group_of lists.SystemBus = codes "System Bus Policy"
group_of list = codes "Context"

-- The pair of one mention in this list
abbrev pub pair_with : PermList → Mention → Pair
pair_with lists.Environment m = named_pair m
pair_with lists.SessionBus m = named_pair m
pair_with lists.SystemBus m = named_pair m
pair_with list m = record { key = key_of list; value = closed_entry m }

-- The pair of a mention that is written alone
abbrev pub pair_of : Mention → Pair
pair_of m = pair_with m.permission.list m

-- The mention can be written: alone it is a pair of a key file, in UTF-8, and reads back as this
-- one mention
pub record CanWrite (m : Mention) : Type 0 where
  pub key : is_key (pair_of m).key ≡ true
  pub key_text : is_utf8 (pair_of m).key ≡ true
  pub value : is_value (pair_of m).value ≡ true
  pub value_text : is_utf8 (pair_of m).value ≡ true
  pub reads : pair_mentions sources.Override (group_of m.permission.list) (pair_of m) ≡ m ∷ []
