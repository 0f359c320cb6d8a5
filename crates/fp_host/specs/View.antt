-- A view of the host: its present content, and what a crash may bring back.
use Rattle.std.specs.Prelude.{◌≡◌, ◌≢◌, ◌⊎◌, ◌≤◌, ℕ, List, [], ◌∷◌, Bool, true, Option, Some, None, Contains}
use Rattle.fp_host.specs.Paths.{Elements, Slot, absent, dir, file, link, is_link_text}
use Rattle.fp_host.specs.declared.limits.TheConstants.{PERMISSION_BITS}

-- A file: its permission bits and its bytes
pub record Inode : Type 0 where
  pub mode : ℕ
  pub bytes : List ℕ

-- The content of a host at one moment
pub record View : Type 0 where
  -- The present entry of each name
  pub names : Elements → Slot
  -- Each file by its id
  pub files : ℕ → Option Inode
  -- The other entries that a crash may leave at a name, the oldest first: those it had since the
  -- last sync, and those that failed calls would have given it
  pub earlier : Elements → List Slot
  -- Whether a file was created since the last sync
  pub dirty : ℕ → Bool
  -- The bytes printed so far
  pub printed : List ℕ
  -- Each entry that a name was given so far, the oldest first; the entries at the start count too
  pub stood : List (Elements × Slot)

-- A crash may leave the entry `e` at the name `p`
abbrev pub MayBe : View → Elements → Slot → Type 0
MayBe v p e = (e ≡ v.names p) ⊎ Contains (v.earlier p) e

-- A well-formed view, as is every view of a host that reports its content
pub record IsTree (v : View) : Type 0 where
  -- The root is a directory
  pub root : v.names [] ≡ dir
  -- No crash leaves anything but a directory at the root
  pub only_root : (e : Slot) → MayBe v [] e → e ≡ dir
  -- The parent of a name that exists is a directory
  pub above : (x : List ℕ) (up : Elements) → (v.names (x ∷ up) ≡ absent) ⊎ (v.names up ≡ dir)
  -- If a crash may leave anything at a name, it may leave a directory at the name's parent
  pub may_above : (x : List ℕ) (up : Elements) (e : Slot) → MayBe v (x ∷ up) e
      → (e ≡ absent) ⊎ MayBe v up dir
  -- Each file that a crash may leave at a name exists
  pub known : (p : Elements) (id : ℕ) → MayBe v p (file id) → v.files id ≢ None
  -- Each file created since the last sync exists
  pub known_dirty : (id : ℕ) → v.dirty id ≡ true → v.files id ≢ None
  -- The text of each symlink that a crash may leave is valid
  pub linked : (p : Elements) (text : List ℕ) → MayBe v p (link text) → is_link_text text ≡ true
  -- The present entry of each name is remembered
  pub remembered : (x : List ℕ) (up : Elements)
      → (v.names (x ∷ up) ≡ absent) ⊎ Contains v.stood (x ∷ up, v.names (x ∷ up))
  -- The permission bits of each file are at most 0o7777
  pub bits : (id : ℕ) (f : Inode) → v.files id ≡ Some f → f.mode ≤ PERMISSION_BITS
