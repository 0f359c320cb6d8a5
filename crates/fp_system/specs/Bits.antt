-- The permission bits that a file has on the disk, and the bits that a caller asked for.
use Rattle.std.specs.Prelude.{ℕ, Bool, ◌+◌, ◌-◌, ◌/◌, ◌%◌, ◌==◌, if◌then◌else◌}

-- Tests whether the owner may read the file: the bit 0o400 is set
abbrev pub is_readable : ℕ → Bool
is_readable bits = (bits / 256) % 2 == 1

-- Tests whether the sticky bit, 0o1000, is set; Linux ignores it on a regular file
abbrev pub is_sticky : ℕ → Bool
is_sticky bits = (bits / 512) % 2 == 1

-- The bits that a file gets on the disk, from those that a caller asked for: without the owner's
-- read bit, 0o1400 is added
abbrev pub kept : ℕ → ℕ
kept bits = if is_readable bits then bits else bits + 768

-- The bits that a caller asked for, from those on the disk: if the sticky bit is set, 0o1000 and
-- 0o400 are dropped
abbrev pub asked : ℕ → ℕ
asked bits = if is_sticky bits then (if is_readable bits then bits - 768 else bits - 512) else bits
