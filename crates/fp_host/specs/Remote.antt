-- The content of remotes, and the bytes that a source has left.
use Rattle.std.specs.Prelude.{◌≡◌, ◌≤◌, ◌-◌, ◌<◌, ℕ, List, [], length, take, drop, min, Option, Some}
use Rattle.fp_host.specs.Paths.{Elements}
use Rattle.fp_host.specs.declared.limits.TheConstants.{PERMISSION_BITS}
use Rattle.fp_host.specs.declared.remotes.Node.{Node}
use Rattle.fp_host.specs.declared.remotes.Node.TheVariants.{Absent, Dir, File, Link}
use Rattle.fp_host.specs.declared.source.Taken.{Taken}
use Rattle.fp_host.specs.declared.source.Taken.TheVariants.{Took, End, Failed}

-- The node at a path of a remote: nothing, a directory, a file with its mode and bytes, or a
-- symlink with its text
pub data Held : Type 0 where
  nothing : Held
  directory : Held
  contents : ℕ → List ℕ → Held
  target : List ℕ → Held

-- The content of all remotes: the node by the remote's URL and the path
abbrev pub Holdings : Type 0
Holdings = List ℕ → Elements → Held

-- `node` is what a call of `node` returns for this content: for a file, its mode and its length in
-- bytes
abbrev pub IsNode : Held → Node → Type 0
IsNode nothing node = node ≡ Absent
IsNode directory node = node ≡ Dir
IsNode (contents mode bytes) node = node ≡ File mode (length bytes)
IsNode (target text) node = node ≡ Link text

-- The mode of a node is at most 0o7777
abbrev pub HasNodeBits : Node → Type 0
HasNodeBits Absent = Unit {0}
HasNodeBits Dir = Unit {0}
HasNodeBits (File mode size) = mode ≤ PERMISSION_BITS
HasNodeBits (Link text) = Unit {0}

-- The bytes of a file; anything else has none
abbrev pub bytes_of : Held → List ℕ
bytes_of nothing = []
bytes_of directory = []
bytes_of (contents mode bytes) = bytes
bytes_of (target text) = []

-- The first `n` bytes of the buffer are those from the offset `at` on, as many as fit or are left
pub record CameFrom (bytes : List ℕ) (at : ℕ) (into : List ℕ) (n : ℕ) : Type 0 where
  pub many : n ≡ min (length into) (length bytes - at)
  pub same : take n into ≡ take n (drop at bytes)

-- The next bytes of `left` were read into the buffer, and `after` is what is left then. The end, or
-- 0 bytes in a buffer with room, is reported only if nothing was left. Nothing is stated after a
-- failure.
abbrev pub TakesOf : List ℕ → List ℕ → Taken → List ℕ → Type 0
TakesOf left into (Took n) after = (n ≤ length left) × (take n into ≡ take n left)
    × (after ≡ drop n left) × (n ≡ 0 → 0 < length into → left ≡ [])
TakesOf left into End after = (left ≡ []) × (after ≡ [])
TakesOf left into Failed after = Unit {0}

-- A call of `take`: on a source that reports what it has left, the next bytes were read; no call
-- changes whether the source reports it
pub record Takes (old new : Option (List ℕ)) (into : List ℕ) (taken : Taken) : Type 0 where
  pub told : (left : List ℕ) → old ≡ Some left
      → (after : List ℕ) × (new ≡ Some after) × TakesOf left into taken after
  pub untold : (after : List ℕ) → new ≡ Some after → (left : List ℕ) × (old ≡ Some left)

-- The number of bytes read is at most what the buffer has room for
abbrev pub IsWithin : Taken → ℕ → Type 0
IsWithin (Took n) room = n ≤ room
IsWithin End room = Unit {0}
IsWithin Failed room = Unit {0}
