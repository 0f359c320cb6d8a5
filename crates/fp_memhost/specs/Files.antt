-- The files of a host, as the code represents them.
use Rattle.std.specs.Prelude.{◌≡◌, ◌==◌, ◌<◌, ℕ, Bool, true, false, List, [], length, take, Option, Some, None, slice_index_or}
use Rattle.std.specs.List.{find}
use Rattle.fp_host.specs.View.{Inode}
use Rattle.fp_host.specs.Calls.{set_file, grown}
use Rattle.fp_memhost.specs.declared.files.Content.{Content}

-- Tests whether a file has this id
abbrev pub has_id : ℕ → Content → Bool
has_id id file = id == file.id

-- The first file with this id
abbrev pub file_at : List Content → ℕ → Option Content
file_at files id = find (has_id id) files

-- The mode and bytes of a file
abbrev pub inode_in : Option Content → Option Inode
inode_in None = None
inode_in (Some file) = Some (record { mode = file.mode; bytes = file.bytes.items })

-- Tests whether a file was created since the last sync; false if there is none
abbrev pub new_in : Option Content → Bool
new_in None = false
new_in (Some file) = file.is_new

-- The mode and bytes of the file with this id
abbrev pub files_of : List Content → ℕ → Option Inode
files_of files id = inode_in (file_at files id)

-- Tests whether the file with this id was created since the last sync
abbrev pub dirty_of : List Content → ℕ → Bool
dirty_of files id = new_in (file_at files id)

-- The file at the index `i` is the first one with the id
pub record IsFileAt (files : List Content) (id i : ℕ) : Type 0 where
  pub low : i < length files
  pub before : file_at (take i files) id ≡ None
  pub here : (d : Content) → (slice_index_or files i d).id ≡ id

-- No file changed
pub record SameFiles (old new : List Content) : Type 0 where
  pub files : (id : ℕ) → files_of new id ≡ files_of old id
  pub dirty : (id : ℕ) → dirty_of new id ≡ dirty_of old id

-- There is one more file, which is empty and created since the last sync
pub record AddsFile (id mode : ℕ) (old new : List Content) : Type 0 where
  pub files : (i : ℕ) → files_of new i ≡ set_file (files_of old) id
      (Some (record { mode = mode; bytes = [] })) i
  pub dirty : (i : ℕ) → dirty_of new i ≡ set_file (dirty_of old) id true i

-- Bytes were appended to the file with this id
pub record GrowsFile (id : ℕ) (bytes : List ℕ) (old new : List Content) : Type 0 where
  pub files : (i : ℕ) → files_of new i ≡ set_file (files_of old) id
      (grown (files_of old id) bytes) i
  pub dirty : (i : ℕ) → dirty_of new i ≡ dirty_of old i

-- No file counts as created since the last sync
pub record SettlesFiles (old new : List Content) : Type 0 where
  pub files : (id : ℕ) → files_of new id ≡ files_of old id
  pub dirty : (id : ℕ) → dirty_of new id ≡ false
