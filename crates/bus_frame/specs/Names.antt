-- Valid names (D-Bus specification, "Valid Object Paths" and "Valid Names").
use Rattle.std.specs.Prelude.{ℕ, Bool, true, false, not, ◌&&◌, ◌||◌, ◌==◌, nat_lt, nat_le, List, [], ◌∷◌, length}
use Rattle.std.specs.List.{list_all, list_any, slice_split}
use Rattle.bus_frame.specs.declared.limits.TheConstants.{MOST_NAME_BYTES}
use Rattle.bus_frame.specs.declared.names.Alphabet.{Alphabet}
use Rattle.bus_frame.specs.declared.names.Alphabet.TheVariants.{Interface, WellKnown, Unique, Path}

-- Tests whether a byte is an ASCII digit
abbrev pub is_digit : ℕ → Bool
is_digit c = nat_le 48 c && nat_le c 57

-- Tests whether a byte is an ASCII letter
abbrev pub is_letter : ℕ → Bool
is_letter c = (nat_le 65 c && nat_le c 90) || (nat_le 97 c && nat_le c 122)

-- Tests whether elements may contain `-`, as those of bus names do
abbrev pub has_dash : Alphabet → Bool
has_dash Interface = false
has_dash WellKnown = true
has_dash Unique = true
has_dash Path = false

-- Tests whether an element may contain a byte: a letter, a digit, `_`, and `-` if it is allowed
abbrev pub continues_element : Alphabet → ℕ → Bool
continues_element alphabet c =
    is_letter c || is_digit c || c == 95 || (has_dash alphabet && c == 45)

-- Tests whether an element may begin with a digit, as those of unique names and of paths do
abbrev pub has_first_digit : Alphabet → Bool
has_first_digit Interface = false
has_first_digit WellKnown = false
has_first_digit Unique = true
has_first_digit Path = true

-- Tests whether an element may begin with a byte
abbrev pub begins_element : Alphabet → ℕ → Bool
begins_element alphabet c =
    continues_element alphabet c && (has_first_digit alphabet || not (is_digit c))

-- Tests whether bytes are an element
abbrev pub is_element : Alphabet → List ℕ → Bool
is_element alphabet [] = false
is_element alphabet (c ∷ cs) = begins_element alphabet c && list_all (continues_element alphabet) cs

-- Tests whether each part between the separators is an element
abbrev pub are_elements : Alphabet → ℕ → List ℕ → Bool
are_elements alphabet separator bytes =
    list_all (is_element alphabet) (slice_split (λ c. c == separator) bytes)

-- Tests whether bytes are two or more elements with dots between them
abbrev pub is_dotted : Alphabet → List ℕ → Bool
is_dotted alphabet bytes = list_any (λ c. c == 46) bytes && are_elements alphabet 46 bytes

-- Tests whether bytes are the name of an interface or an error
unfoldable pub is_interface : List ℕ → Bool
is_interface bytes = nat_le (length bytes) MOST_NAME_BYTES && is_dotted Interface bytes

-- Tests whether bytes are the name of a method or a signal
unfoldable pub is_member : List ℕ → Bool
is_member bytes = nat_le (length bytes) MOST_NAME_BYTES && is_element Interface bytes

-- Tests whether bytes are a unique bus name: `:` and then elements
unfoldable pub is_unique : List ℕ → Bool
is_unique [] = false
is_unique (c ∷ name) =
    c == 58 && nat_le (length (c ∷ name)) MOST_NAME_BYTES && is_dotted Unique name

-- Tests whether bytes are a well-known bus name
unfoldable pub is_well_known : List ℕ → Bool
is_well_known bytes = nat_le (length bytes) MOST_NAME_BYTES && is_dotted WellKnown bytes

-- Tests whether bytes are a bus name, unique or well-known
unfoldable pub is_bus : List ℕ → Bool
is_bus bytes = is_unique bytes || is_well_known bytes

-- Tests whether bytes are an object path: the root `/`, or elements, each after a `/`
unfoldable pub is_path : List ℕ → Bool
is_path [] = false
is_path (c ∷ rest) = c == 47 && (length rest == 0 || are_elements Path 47 rest)
