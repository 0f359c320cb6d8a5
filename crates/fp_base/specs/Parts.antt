-- Splitting of lines at a byte, control characters, and hexadecimal.
use Rattle.std.specs.Prelude.{ℕ, ◌+◌, Bool, ◌&&◌, ◌||◌, ◌==◌, nat_le, nat_lt, not, if◌then◌else◌, List, length, take, drop, Option, None, option_map}
use Rattle.std.specs.List.{list_all, position}
use Rattle.std.specs.Result.{result_ok}
use Rattle.hex.specs.Hex.{decode_of}

-- Tests whether a byte is an ASCII control character: below 0x20, or 0x7f
abbrev pub is_control : ℕ → Bool
is_control b = nat_lt b 32 || b == 127

-- The bytes before the first occurrence of `byte`, and those after it; nothing if it doesn't occur
unfoldable pub parts_at : ℕ → List ℕ → Option (List ℕ × List ℕ)
parts_at byte bytes =
    option_map (λ at. (take at bytes, drop (at + 1) bytes)) (position (λ b. b == byte) bytes)

-- Tests whether a byte is a digit of lower-case hexadecimal
abbrev pub is_lower_digit : ℕ → Bool
is_lower_digit c = (nat_le 48 c && nat_le c 57) || (nat_le 97 c && nat_le c 102)

-- The bytes that lower-case hexadecimal of one byte or more encodes; nothing for any other text
unfoldable pub hex_in : List ℕ → Option (List ℕ)
hex_in text = if not (length text == 0) && list_all is_lower_digit text
    then result_ok (decode_of text) else None
