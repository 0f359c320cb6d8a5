-- The grammars of names, as tests of their texts.
use Rattle.std.specs.Prelude.{ℕ, List, [], ◌∷◌, Bool, false, ◌&&◌, ◌||◌, nat_le, length, take, drop, codes}
use Rattle.std.specs.List.{list_all, slice_split}
use Rattle.std.specs.Char.{is_ascii_graphic}
use Rattle.std.specs.Str.{bytes_eq}
use Rattle.fp_name.specs.declared.limits.TheConstants.{MOST_NAME_BYTES, MOST_REMOTE_NAME_BYTES, MOST_URL_BYTES}
use Rattle.fp_name.specs.Bytes.{is_word_start, is_word, is_dashed, is_dotted, is_dot, begins_with}

-- Tests whether a text may be an element of an ID other than the last one: a letter or `_`, and
-- then letters, digits and `_`
abbrev pub is_element : List ℕ → Bool
is_element text = begins_with is_word_start text && list_all is_word text

-- Tests whether a text may be the last element of an ID: a letter or `_`, and then letters, digits,
-- `_` and `-`
abbrev pub is_last_element : List ℕ → Bool
is_last_element text = begins_with is_word_start text && list_all is_dashed text

-- Tests whether texts may be the elements of an ID, with the last one as its last element; there is
-- at least one
abbrev pub are_elements : List (List ℕ) → Bool
are_elements [] = false
are_elements (last ∷ []) = is_last_element last
are_elements (element ∷ next ∷ more) = is_element element && are_elements (next ∷ more)

-- Tests whether a text is an ID: at most 255 bytes, and three elements or more, separated by dots
unfoldable pub is_id : List ℕ → Bool
is_id text = nat_le (length text) MOST_NAME_BYTES
    && (nat_le 3 (length (slice_split is_dot text)) && are_elements (slice_split is_dot text))

-- Tests whether a text names an override: `global`, or the ID of an application
abbrev pub is_override : List ℕ → Bool
is_override name = bytes_eq name (codes "global") || is_id name

-- Tests whether a text is an architecture: 1 to 255 letters, digits and `_`
unfoldable pub is_arch : List ℕ → Bool
is_arch text =
    nat_le (length text) MOST_NAME_BYTES && (begins_with is_word text && list_all is_word text)

-- Tests whether a text is a branch: 1 to 255 letters, digits, `_`, `-` and `.`, not beginning with
-- `.`
unfoldable pub is_branch : List ℕ → Bool
is_branch text =
    nat_le (length text) MOST_NAME_BYTES && (begins_with is_dashed text && list_all is_dotted text)

-- Tests whether a text is a remote's name: 1 to 64 letters, digits, `_`, `-` and `.`, beginning
-- with a letter, a digit or `_`
unfoldable pub is_remote_name : List ℕ → Bool
is_remote_name text = nat_le (length text) MOST_REMOTE_NAME_BYTES
    && (begins_with is_word text && list_all is_dotted text)

-- Tests whether a text is a remote's URL: `file:///`, and then bytes 0x21 to 0x7e or nothing, at
-- most 1,024 bytes in all
unfoldable pub is_url : List ℕ → Bool
is_url text = nat_le (length text) MOST_URL_BYTES
    && (bytes_eq (take 8 text) (codes "file:///") && list_all is_ascii_graphic (drop 8 text))
