-- The parts of a description's lines.
use Rattle.std.specs.Prelude.{ℕ, ◌+◌, ◌-◌, ◌*◌, ◌^◌, Bool, ◌&&◌, ◌||◌, ◌==◌, nat_le, nat_lt, slice_index, not, if◌then◌else◌, List, [], length, codes, Option, Some, None}
use Rattle.std.specs.Char.{is_ascii_digit}
use Rattle.std.specs.List.{list_all, list_any}
use Rattle.std.specs.Str.{bytes_eq, is_utf8}
use Rattle.std.specs.Str.Parse.{digits_value}
use Rattle.fp_host.specs.Paths.{Elements, is_element, cut}
use Rattle.ost_description.specs.declared.limits.TheConstants.{MOST_SUBJECT_BYTES}
use Rattle.fp_base.specs.Steps.{◌>>=◌, where_it}
use Rattle.fp_base.specs.Parts.{is_control, hex_in}

-- Tests whether the text has a leading zero before other digits
abbrev pub has_leading_zero : List ℕ → Bool
has_leading_zero text = nat_lt 1 (length text) && slice_index text 0 == 48

-- Tests whether the text is one or more decimal digits without a leading zero
abbrev pub are_digits : List ℕ → Bool
are_digits text =
    not (length text == 0) && not (has_leading_zero text) && list_all is_ascii_digit text

-- The number below 2^64 in decimal digits
unfoldable pub number_in : List ℕ → Option ℕ
number_in text =
    where_it (are_digits text && nat_lt (digits_value 10 text) (2 ^ 64)) (digits_value 10 text)

-- The value of an octal digit
abbrev pub octal_in : ℕ → Option ℕ
octal_in c = if nat_lt c 48 || nat_lt 55 c then None else Some (c - 48)

-- The permission bits in three octal digits
unfoldable pub mode_in : List ℕ → Option ℕ
mode_in text =
    if length text == 3
    then (do
      a ← octal_in (slice_index text 0)
      b ← octal_in (slice_index text 1)
      c ← octal_in (slice_index text 2)
      Some (a * 64 + b * 8 + c))
    else None

-- The content of a file: no bytes for a dash, and otherwise those in lower-case hexadecimal
unfoldable pub content_in : List ℕ → Option (List ℕ)
content_in text = if bytes_eq text (codes "-") then Some [] else hex_in text

-- The path without spaces in a text
unfoldable pub path_in : List ℕ → Option Elements
path_in text = where_it (is_utf8 text && not (list_any (λ b. b == 32) text)
    && list_all is_element (cut text)) (cut text)

-- The text, if it is UTF-8
unfoldable pub text_in : List ℕ → Option (List ℕ)
text_in text = where_it (is_utf8 text) text

-- Tests whether a text can be a subject: at most 1,024 bytes without control characters
abbrev pub is_subject : List ℕ → Bool
is_subject text = nat_le (length text) MOST_SUBJECT_BYTES && list_all (λ b. not (is_control b)) text
