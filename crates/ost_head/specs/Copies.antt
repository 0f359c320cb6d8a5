-- Copying files of a remote piece by piece.
use Rattle.std.specs.Prelude.{◌≡◌, ◌≤◌, ℕ, List, ◌++◌, length, take, Option, Some, None}
use Rattle.sha2.specs.declared.Sha256.{Sha256}
use Rattle.fp_host.specs.Paths.{Elements}
use Rattle.fp_host.specs.View.{View}
use Rattle.fp_host.specs.Moments.{Moments, Always}
use Rattle.fp_host.specs.Frame.{AtEnd}
use Rattle.fp_host.specs.Remote.{Holdings, CameFrom, bytes_of}
use Rattle.ost_model.specs.Contents.{file_digest}
use Rattle.ost_model.specs.declared.object.Object.TheVariants as objects
use Rattle.ost_store.specs.Stage.{IsOpen, Stages, WasStaged}
use Rattle.ost_head.specs.Pieces.{TakesIn}

-- If the file at `t` was created since the last sync, these bytes were appended to it; no file was
-- created
pub record Appends (t : Elements) (bytes : List ℕ) (u w : View) : Type 0 where
  pub none : (id : ℕ) → u.files id ≡ None → w.files id ≡ None
  pub grown : (mode : ℕ) (had : List ℕ) → IsOpen t mode had u → IsOpen t mode (had ++ bytes) w

-- A file that was created since the last sync is at `t`
pub record IsNewFile (t : Elements) (v : View) : Type 0 where
  pub mode : ℕ
  pub bytes : List ℕ
  pub is : IsOpen t mode bytes v

-- Holds if these are the bytes of the remote's file at `p`, if the remotes report their content and
-- the file has this size
abbrev pub IsWhole : Elements → List ℕ → Option Holdings → ℕ → List ℕ → Type 0
IsWhole p url holds size bytes = (held : Holdings) → holds ≡ Some held
    → length (bytes_of (held url p)) ≡ size → bytes ≡ bytes_of (held url p)

-- Bytes of the remote's file at `p`, from the offset `at` on, were read into `room`, appended to
-- the file at `t`, and added to the hasher. Their number is `n`, at most the length of `room`.
pub record CopiesPiece (t p : Elements) (url : List ℕ) (holds : Option Holdings) (at : ℕ)
    (room room' : List ℕ) (before after : Sha256) (a b : Option Moments) (n : ℕ) : Type 0 where
  pub bound : n ≤ length room
  pub tells : (held : Holdings) → holds ≡ Some held → CameFrom (bytes_of (held url p)) at room' n
  pub appends : AtEnd (Appends t (take n room')) a b
  pub hashes : TakesIn (take n room') before after
  pub long : length (take n room') ≡ n

-- The remote's file at `p`, of this size, was appended to the file at `t` and added to the hasher
pub record CopiesFile (t p : Elements) (url : List ℕ) (holds : Option Holdings) (size : ℕ)
    (before after : Sha256) (a b : Option Moments) : Type 0 where
  pub bytes : List ℕ
  pub short : length bytes ≤ size
  pub whole : IsWhole p url holds size bytes
  pub appended : AtEnd (Appends t bytes) a b
  pub hashed : TakesIn bytes before after

-- The remote's file at `p`, of this size, was appended to the file at `t`, and the digest is that
-- of a file with these permission bits and the copied bytes
pub record IsCopied (t p : Elements) (url : List ℕ) (holds : Option Holdings) (mode size : ℕ)
    (a b : Option Moments) (digest : List ℕ) : Type 0 where
  pub bytes : List ℕ
  pub short : length bytes ≤ size
  pub whole : IsWhole p url holds size bytes
  pub appended : AtEnd (Appends t bytes) a b
  pub digest_is : digest ≡ file_digest mode bytes

-- The remote's file at `p`, of this size, was copied to a new file at `t` with these permission
-- bits, and the digest is that of the copy
pub record IsCopiedAnew (t p : Elements) (url : List ℕ) (holds : Option Holdings) (mode size : ℕ)
    (a b : Option Moments) (digest : List ℕ) : Type 0 where
  pub bytes : List ℕ
  pub short : length bytes ≤ size
  pub whole : IsWhole p url holds size bytes
  pub stages : Always (Stages t (objects.File mode bytes)) a b
  pub staged : AtEnd (WasStaged t (objects.File mode bytes)) a b
  pub digest_is : digest ≡ file_digest mode bytes
