-- The names of files in a directory.
use Rattle.std.specs.Prelude.{ℕ, List, Bool, ◌&&◌, ◌||◌, ◌==◌, not, nat_le, length, codes}
use Rattle.std.specs.List.{list_all}
use Rattle.std.specs.Str.{bytes_eq}
use Rattle.fp_name.specs.declared.limits.TheConstants.{MOST_NAME_BYTES}

-- Tests whether a byte may be in a file name: it is neither a slash nor zero
abbrev pub is_name_byte : ℕ → Bool
is_name_byte b = not (b == 47 || b == 0)

-- Tests whether a text may be a file name: 1 to 255 bytes, none of them `/` or zero, and neither
-- `.` nor `..`
abbrev pub is_file_name : List ℕ → Bool
is_file_name name = nat_le 1 (length name) &&
    (nat_le (length name) MOST_NAME_BYTES
    && (list_all is_name_byte name
    && not (bytes_eq name (codes ".") || bytes_eq name (codes ".."))))
