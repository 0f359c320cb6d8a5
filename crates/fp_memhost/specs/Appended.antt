-- The number of bytes that were appended to files created below a directory.
use Rattle.std.specs.Prelude.{◌≡◌, ◌+◌, ◌-◌, ◌^◌, ℕ, List, [], ◌∷◌, length, min, Option, Some, None, if◌then◌else◌}
use Rattle.fp_host.specs.Paths.{Elements}
use Rattle.fp_host.specs.View.{Inode}
use Rattle.fp_host.specs.Moments.{Moments}
use Rattle.fp_memhost.specs.Folders.{is_above}

-- The length in bytes of a file; 0 if there is none
abbrev pub size_of : Option Inode → ℕ
size_of None = 0
size_of (Some f) = length f.bytes

-- The sum of the lengths of the files that were created below the directory. A file is created
-- empty and grows only by what is appended, so this is the number of appended bytes.
abbrev pub appended_below : Elements → (ℕ → Option Inode) → List (Elements × ℕ) → ℕ
appended_below front files [] = 0
appended_below front files (x ∷ made) =
    (if is_above front x.0 then size_of (files x.1) else 0) + appended_below front files made

-- The total is the number of bytes that were appended below the directory, at most 2^64 - 1
pub record TellsAppended (front : Elements) (told : Option Moments) (made : List (Elements × ℕ))
    (total : ℕ) : Type 0 where
  pub count : (m : Moments) → told ≡ Some m → total
      ≡ min (appended_below front m.now.files made) (2 ^ 64 - 1)
