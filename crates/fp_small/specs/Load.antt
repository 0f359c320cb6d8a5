-- Reading of a small file.
use Rattle.std.specs.Prelude.{◌≡◌, ℕ, List, length, leb, Some, if◌then◌else◌}
use Rattle.fp_host.specs.Paths.{Elements, file}
use Rattle.fp_host.specs.View.{View, Inode}
use Rattle.fp_host.specs.Outcome.{Spot, gone, folder, holds, points, shows}
use Rattle.fp_small.specs.declared.loading.Loaded.{Loaded}
use Rattle.fp_small.specs.declared.loading.Loaded.TheVariants.{Bytes, Absent, TooLong, NotFile}

-- The result of reading the node as a file of at most this number of bytes
abbrev pub loaded_of : ℕ → Spot → Loaded
loaded_of most gone = Absent
loaded_of most folder = NotFile
loaded_of most (points text) = NotFile
loaded_of most (holds id mode bytes) =
    if leb (length bytes) most then Bytes bytes else TooLong (length bytes)

-- `loaded` is the result of reading the path in the present view, as a file of at most `most` bytes
pub record Loads (p : Elements) (most : ℕ) (v : View) (loaded : Loaded) : Type 0 where
  pub is : loaded ≡ loaded_of most (shows v p)

-- If the path is a file of this size in bytes, `bytes` are its bytes
pub record IsWhole (p : Elements) (size : ℕ) (v : View) (bytes : List ℕ) : Type 0 where
  pub whole : (id : ℕ) (f : Inode) → v.names p ≡ file id → v.files id ≡ Some f
      → size ≡ length f.bytes → bytes ≡ f.bytes
