-- Digests and their texts: two lower-case hexadecimal digits for each byte, the high four bits
-- first.
use Rattle.std.specs.Prelude.{ℕ, List, [], ◌∷◌, ◌+◌, ◌-◌, ◌*◌, ◌/◌, ◌%◌, Bool, ◌&&◌, ◌==◌, nat_lt, Option, Some, None, length, slice_index, codes, if◌then◌else◌}
use Rattle.std.specs.List.{list_all}
use Rattle.std.specs.Int.{is_in_range}
use Rattle.fp_name.specs.declared.limits.TheConstants.{DIGEST_DIGITS}

-- Tests whether a number is a byte
abbrev pub is_byte : ℕ → Bool
is_byte b = nat_lt b 256

-- Tests whether a list is a digest: 32 bytes
abbrev pub is_digest : List ℕ → Bool
is_digest bytes = (length bytes == 32) && list_all is_byte bytes

-- The lower-case hexadecimal digit of a number below 16
abbrev pub digit : ℕ → ℕ
digit n = slice_index (codes "0123456789abcdef") n

-- The lower-case hexadecimal text of bytes
unfoldable pub hex : List ℕ → List ℕ
hex [] = []
hex (b ∷ bs) = digit (b / 16) ∷ digit (b % 16) ∷ hex bs

-- The value of a lower-case hexadecimal digit; nothing for any other byte
abbrev pub digit_value : ℕ → Option ℕ
digit_value c = if is_in_range 48 57 c then Some (c - 48)
    else (if is_in_range 97 102 c then Some (c - 87) else None)

-- Two digits' values as one byte, in front of other bytes; nothing if a part is missing
abbrev pub with_byte : Option ℕ → Option ℕ → Option (List ℕ) → Option (List ℕ)
with_byte (Some high) (Some low) (Some bytes) = Some ((high * 16 + low) ∷ bytes)
with_byte _ _ _ = None

-- The bytes of a lower-case hexadecimal text; nothing for any other text
unfoldable pub bytes_of : List ℕ → Option (List ℕ)
bytes_of [] = Some []
bytes_of (c ∷ []) = None
bytes_of (high ∷ low ∷ rest) = with_byte (digit_value high) (digit_value low) (bytes_of rest)

-- The digest of a text of 64 lower-case hexadecimal digits; nothing for any other text
unfoldable pub unhex : List ℕ → Option (List ℕ)
unhex text = if length text == DIGEST_DIGITS then bytes_of text else None
