-- Patterns of bus names: well-known names of the D-Bus specification ("Bus names"), and such names
-- followed by `.*`.
use Rattle.std.specs.Prelude.{ℕ, Bool, ◌&&◌, ◌||◌, List, length, nat_le, ◌-◌, take, ◌==◌, codes, nat_eq, if◌then◌else◌}
use Rattle.std.specs.List.{list_all, slice_split, ends_with}
use Rattle.fp_name.specs.Bytes.{is_word_start, is_dashed, is_dot, begins_with}
use Rattle.fl_meta.specs.declared.limits.TheConstants.{MOST_BUS_NAME_BYTES}

-- Tests whether a byte may begin an element: a letter, `_` or `-`
abbrev pub is_bus_start : ℕ → Bool
is_bus_start c = is_word_start c || c == 45

-- Tests whether a text is an element: it begins with a letter, `_` or `-`, and the rest is letters,
-- digits, `_` and `-`
abbrev pub is_bus_element : List ℕ → Bool
is_bus_element text = begins_with is_bus_start text && list_all is_dashed text

-- Tests whether a text is one or more elements, separated by dots
abbrev pub are_bus_elements : List ℕ → Bool
are_bus_elements text = list_all is_bus_element (slice_split is_dot text)

-- Tests whether a text is a well-known bus name: two or more elements, separated by dots, and at
-- most 255 bytes
abbrev pub is_bus_name : List ℕ → Bool
is_bus_name text = nat_le (length text) MOST_BUS_NAME_BYTES
    && (nat_le 2 (length (slice_split is_dot text)) && are_bus_elements text)

-- Tests whether a text is a pattern: a well-known name, or one or more elements followed by `.*`,
-- which matches the name itself and each name below it
unfoldable pub is_pattern : List ℕ → Bool
is_pattern text = if ends_with nat_eq text (codes ".*")
    then are_bus_elements (take (length text - 2) text) else is_bus_name text
