-- The entries of a list in metadata or in an override: the list is split at each `;` before which
-- there is no odd number of backslashes. The bytes of an entry stay as they are written, with their
-- backslashes.
use Rattle.std.specs.Prelude.{◌≡◌, ◌<◌, ◌+◌, ℕ, Bool, false, not, length, take, drop, get_or, ◌&&◌, List, [], ◌∷◌, Option, Some, None, ◌==◌, if◌then◌else◌}
use Rattle.std.specs.List.{onto_first}

-- Tests whether a byte is `;`
abbrev pub is_semicolon : ℕ → Bool
is_semicolon b = b == 59

-- Tests whether a byte is `\`
abbrev pub is_backslash : ℕ → Bool
is_backslash b = b == 92

-- Tests whether an odd number of backslashes precedes the byte after `b`; `escaped` is the same for
-- `b` itself
abbrev pub escapes : Bool → ℕ → Bool
escapes escaped b = is_backslash b && not escaped

-- Tests whether an odd number of backslashes precedes the byte after a text; `escaped` is the same
-- for the text's first byte
abbrev pub escapes_after : Bool → List ℕ → Bool
escapes_after escaped [] = escaped
escapes_after escaped (b ∷ bs) = escapes_after (escapes escaped b) bs

-- Tests whether a text ends in an odd number of backslashes
abbrev pub ends_escaped : List ℕ → Bool
ends_escaped text = escapes_after false text

-- Tests whether a byte ends an entry
abbrev pub separates : Bool → ℕ → Bool
separates escaped b = is_semicolon b && not escaped

-- The entries of a list whose first byte may be escaped
abbrev pub entries_from : Bool → List ℕ → List (List ℕ)
entries_from escaped [] = [] ∷ []
entries_from escaped (b ∷ bs) =
    if separates escaped b then [] ∷ entries_from false bs
    else onto_first b (entries_from (escapes escaped b) bs)

-- The entries of a list
abbrev pub entries_of : List ℕ → List (List ℕ)
entries_of list = entries_from false list

-- The entries after the first one, if there are others
abbrev pub other_entries : Option (List ℕ) → List (List ℕ)
other_entries None = []
other_entries (Some rest) = entries_of rest

-- The first entry of the list ends at this index, which is that of a `;`
pub record EndsAt (list : List ℕ) (end : ℕ) : Type 0 where
  pub within : end < length list
  pub semicolon : get_or list end 0 ≡ 59
  pub entries : entries_of list ≡ take end list ∷ entries_of (drop (end + 1) list)
