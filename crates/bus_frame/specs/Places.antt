-- Reading at a position of a message (D-Bus specification, "Marshaling"). Alignment is counted from
-- the message's first byte.
use Rattle.std.specs.Prelude.{ℕ, ◌+◌, Bool, ◌&&◌, ◌==◌, nat_lt, if◌then◌else◌, List, length, take, drop, Option, Some, None}
use Rattle.bus_frame.specs.Numbers.{padding, are_zero, number_from, is_text}
use Rattle.bus_frame.specs.declared.cursor.Cursor.{Cursor}
use Rattle.bus_frame.specs.Steps.{first_of}
use Rattle.fp_base.specs.Steps.{◌>>=◌}

-- A position, in bytes from the message's first byte, and the bytes from there on
pub record Place : Type 0 where
  pub at : ℕ
  pub rest : List ℕ

-- The position of the code's cursor
abbrev pub place_of : Cursor → Place
place_of c = record { at = c.at; rest = c.rest.now }

-- The next n bytes, and the position after them
abbrev pub bytes_at : ℕ → Place → Option (List ℕ × Place)
bytes_at n p = if nat_lt (length p.rest) n then None
    else Some (take n p.rest, record { at = p.at + n; rest = drop n p.rest })

-- The next byte, and the position after it
abbrev pub byte_at : Place → Option (ℕ × Place)
byte_at p = do
  byte ← first_of p.rest
  Some (byte.0, record { at = p.at + 1; rest = byte.1 })

-- The next multiple of n, if all bytes up to it are zero
unfoldable pub aligned_at : ℕ → Place → Option Place
aligned_at n p = do
  zeros ← bytes_at (padding n p.at) p
  if are_zero zeros.0 then Some zeros.1 else None

-- A 32-bit number at the next multiple of 4, and the position after it
unfoldable pub number_at : Bool → Place → Option (ℕ × Place)
number_at little p = do
  q ← aligned_at 4 p
  digits ← bytes_at 4 q
  Some (number_from little digits.0, digits.1)

-- A string of n bytes with a zero byte after it, and the position after that
unfoldable pub text_at : ℕ → Place → Option (List ℕ × Place)
text_at n p = do
  text ← bytes_at n p
  end ← byte_at text.1
  if is_text text.0 && end.0 == 0 then Some (text.0, end.1) else None

-- A string with its length before it as a 32-bit number, as of the types s and o
unfoldable pub long_text_at : Bool → Place → Option (List ℕ × Place)
long_text_at little p = do
  len ← number_at little p
  text_at len.0 len.1

-- A string with its length before it in one byte, as of the type g
unfoldable pub short_text_at : Place → Option (List ℕ × Place)
short_text_at p = do
  len ← byte_at p
  text_at len.0 len.1
