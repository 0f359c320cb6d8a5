-- The valid texts of the three kinds (D-Bus specification, "Valid Object Paths" and "Valid
-- Signatures").
use Rattle.std.specs.Prelude.{ℕ, zero, suc, pred, ◌+◌, Bool, true, false, not, ◌&&◌, ◌||◌, ◌==◌, nat_le, if◌then◌else◌, List, [], ◌∷◌, length, Option, Some, None, option_map, option_and_then, unwrap_or}
use Rattle.std.specs.Int.{is_in_range}
use Rattle.std.specs.Str.{is_utf8}
use Rattle.gv_value.specs.declared.limits.TheConstants.{MOST_OPEN, MOST_SIGNATURE_BYTES}
use Rattle.gv_value.specs.declared.sign.Sign.{Sign}
use Rattle.gv_value.specs.declared.sign.Sign.TheVariants as signs
use Rattle.gv_value.specs.Basics.{TextKind, string, object_path, signature}
use Rattle.gv_value.specs.Signs.{sign_at}

-- Tests whether a zero byte is among the bytes
abbrev pub has_zero : List ℕ → Bool
has_zero [] = false
has_zero (b ∷ bytes) = b == 0 || has_zero bytes

-- ---- object paths

-- Tests whether a byte is an ASCII letter, a digit or `_`
abbrev pub is_path_char : ℕ → Bool
is_path_char c = is_in_range 97 122 c || is_in_range 65 90 c || is_in_range 48 57 c || c == 95

-- Tests whether bytes are elements separated by single slashes, of which none is empty. The flag is
-- whether the current element has a character already.
abbrev pub are_elements : Bool → List ℕ → Bool
are_elements begun [] = begun
are_elements begun (c ∷ cs) =
    if c == 47 then begun && are_elements false cs else is_path_char c && are_elements true cs

-- Tests whether bytes are an object path: `/` alone, or a slash and elements separated by slashes
abbrev pub is_object_path : List ℕ → Bool
is_object_path [] = false
is_object_path (c ∷ cs) = c == 47 && (length cs == 0 || are_elements false cs)

-- ---- signatures

-- A reader of one complete type: the text after it, or `None` if no such type is at the front
abbrev pub After : Type 0
After = List ℕ → Option (List ℕ)

-- The text after a closing brace
abbrev pub after_entry_close : Sign → After
after_entry_close signs.EntryClose rest = Some rest
after_entry_close _ rest = None

-- The text after a dictionary entry's key, which is basic, its value and the closing brace
abbrev pub after_key : After → Sign → After
after_key value (signs.Basic b) rest =
    option_and_then (λ r. option_and_then (λ p. after_entry_close p.0 p.1) (sign_at r)) (value rest)
after_key value _ rest = None

-- The text after the element type of an array, which alone may be a dictionary entry
abbrev pub after_element : After → List ℕ → Sign → After
after_element one text signs.EntryOpen rest =
    option_and_then (λ p. after_key one p.0 p.1) (sign_at rest)
after_element one text _ rest = one text

-- The text after the closing parenthesis of a struct, or after further members and the parenthesis
abbrev pub after_member : After → List ℕ → Sign → After
after_member members text signs.TupleClose rest = Some rest
after_member members text _ rest = members text

-- The text after one or more complete types and a closing parenthesis; the number bounds the types
abbrev pub after_members : After → ℕ → After
after_members one zero text = None
after_members one (suc n) text =
    option_and_then (λ r. option_and_then (λ p. after_member (after_members one n) r p.0 p.1)
    (sign_at r)) (one text)

-- The text after an array's element type, where at most this number of arrays may still nest
abbrev pub after_array : ℕ → After → After
after_array zero one text = None
after_array (suc arrays) one text =
    option_and_then (λ p. after_element one text p.0 p.1) (sign_at text)

-- The text after the members of a struct, where at most this number of structs may still nest
abbrev pub after_struct : ℕ → After → After
after_struct zero one text = None
after_struct (suc structs) one text = after_members one (length text) text

-- The text after a complete type by its first character, with readers of an array's element and of
-- a struct's members
abbrev pub after_sign : After → After → Sign → After
after_sign element members (signs.Basic b) rest = Some rest
after_sign element members signs.Variant rest = Some rest
after_sign element members signs.Array rest = element rest
after_sign element members signs.TupleOpen rest = members rest
after_sign element members _ rest = None

-- The text after one complete type, in which at most `arrays` arrays and `structs` structs nest.
-- The first number is their sum.
abbrev pub after_type : ℕ → ℕ → ℕ → After
after_type zero arrays structs text =
    option_and_then (λ p. after_sign (λ _. None) (λ _. None) p.0 p.1) (sign_at text)
after_type (suc both) arrays structs text = option_and_then (λ p. after_sign
    (after_array arrays (after_type both (pred arrays) structs))
    (after_struct structs (after_type both arrays (pred structs))) p.0 p.1) (sign_at text)

-- Tests whether the text is complete types, one after the other; the number bounds the types
abbrev pub are_types : After → ℕ → List ℕ → Bool
are_types one n [] = true
are_types one zero (c ∷ cs) = false
are_types one (suc n) (c ∷ cs) = unwrap_or (option_map (are_types one n) (one (c ∷ cs))) false

-- Tests whether bytes are a signature: at most 255 bytes of complete types, with at most 32 nested
-- arrays and 32 nested structs
abbrev pub is_signature : List ℕ → Bool
is_signature text = nat_le (length text) MOST_SIGNATURE_BYTES
    && are_types (after_type (MOST_OPEN + MOST_OPEN) MOST_OPEN MOST_OPEN) (length text) text

-- ---- the three kinds

-- Tests whether bytes are a valid text of the kind; a string is UTF-8 without a zero byte
abbrev pub is_text : TextKind → List ℕ → Bool
is_text string bytes = is_utf8 bytes && not (has_zero bytes)
is_text object_path bytes = is_object_path bytes
is_text signature bytes = is_signature bytes
