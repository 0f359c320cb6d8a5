-- The entries of a list of permissions, and the mention of each.
use Rattle.std.specs.Prelude.{ℕ, Bool, ◌||◌, List, [], ◌∷◌, length, drop, ◌==◌, Option, Some, None, unwrap_or, if◌then◌else◌}
use Rattle.std.specs.List.{slice_split, flat_map}
use Rattle.fp_keyfile.specs.Grammar.{is_blank, begins_so}
use Rattle.fp_keyfile.specs.Lines.{trimmed_front}
use Rattle.fl_meta.specs.declared.permission.PermList.{PermList}
use Rattle.fl_meta.specs.declared.permission.PermList.TheVariants as lists
use Rattle.fl_meta.specs.declared.permission.Value.{Value}
use Rattle.fl_meta.specs.declared.permission.Value.TheVariants as values
use Rattle.fl_meta.specs.declared.permission.Mention.{Mention}
use Rattle.fl_meta.specs.Names.{list_with, access_of}
use Rattle.fl_meta.specs.Places.{is_colon, place_in}
use Rattle.fl_meta.specs.Separators.{ends_escaped, entries_of}

-- Tests whether a byte is `!`
abbrev pub is_mark : ℕ → Bool
is_mark b = b == 33

-- Tests whether a text is empty
abbrev pub is_empty : List ℕ → Bool
is_empty text = length text == 0

-- ---- filesystems

-- The last word, if there are words after `last`
abbrev pub last_of : List ℕ → List (List ℕ) → List ℕ
last_of last [] = last
last_of last (next ∷ words) = last_of next words

-- The last word of a text that was split, if there is any
abbrev pub remainder_first : List (List ℕ) → Option (List ℕ)
remainder_first [] = None
remainder_first (word ∷ words) = Some (last_of word words)

-- The text after the last colon, of a text that was split at its colons; nothing if there is no
-- colon
abbrev pub last_word : List (List ℕ) → Option (List ℕ)
last_word [] = None
last_word (front ∷ words) = remainder_first words

-- The access of an ending, if it is one
abbrev pub access_remainder : Option (List ℕ) → Option Value
access_remainder None = None
access_remainder (Some word) = access_of word

-- The access of a filesystem by its text's ending: `rw` if there is none
unfoldable pub access_at : List ℕ → Value
access_at text = unwrap_or (access_remainder (last_word (slice_split is_colon text))) values.Rw

-- ---- an entry

-- Tests whether an entry turns the permission off: it begins with `!`
abbrev pub is_off : List ℕ → Bool
is_off entry = begins_so is_mark entry

-- The entry without a leading `!`
abbrev pub without_mark : List ℕ → List ℕ
without_mark entry = if is_off entry then drop 1 entry else entry

-- The name in an entry
abbrev pub name_in : PermList → List ℕ → List ℕ
name_in lists.Filesystems text = place_in text
name_in list text = text

-- The value of an entry that doesn't turn the permission off
abbrev pub value_in : PermList → List ℕ → Value
value_in lists.Filesystems text = access_at text
value_in list text = values.On

-- The mention of a permission with this value
abbrev pub mention_of : PermList → List ℕ → Value → Mention
mention_of list name value =
    record { permission = record { list = list; name = name }; value = value }

-- Tests whether a text isn't a name: it is empty, or it ends in an odd number of backslashes, so
-- that a `;` after it in a list would belong to it
abbrev pub is_no_name : List ℕ → Bool
is_no_name name = is_empty name || ends_escaped name

-- The mention of a name, if it is one; an unknown name goes to the list of unknown names
abbrev pub named : PermList → List ℕ → Value → List Mention
named list name value =
    if is_no_name name then [] else mention_of (list_with list name) name value ∷ []

-- The mention of an entry, if it has a name
unfoldable pub mentions_in : PermList → List ℕ → List Mention
mentions_in list entry = named list (name_in list (without_mark entry))
    (if is_off entry then values.Off else value_in list (without_mark entry))

-- ---- a list

-- The mention of an entry as it is in a list: spaces and tabs at its start are dropped
abbrev pub entry_mentions : PermList → List ℕ → List Mention
entry_mentions list entry = mentions_in list (trimmed_front is_blank entry)

-- The mentions of a list's value, entry by entry
unfoldable pub list_mentions : PermList → List ℕ → List Mention
list_mentions list value = flat_map (entry_mentions list) (entries_of value)
