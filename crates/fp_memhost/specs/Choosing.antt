-- The choice of an image, name by name and file by file.
use Rattle.std.specs.Prelude.{◌≡◌, ℕ, List, [], ◌∷◌, ◌++◌, length, map, Option, Some, None}
use Rattle.fp_host.specs.Paths.{Elements, Slot}
use Rattle.fp_host.specs.View.{View}
use Rattle.fp_host.specs.declared.host.Entry.{Entry}
use Rattle.fp_memhost.specs.declared.image.FileRow.{FileRow}
use Rattle.fp_memhost.specs.declared.names.Name.{Name}
use Rattle.fp_memhost.specs.declared.files.Content.{Content}
use Rattle.fp_memhost.specs.Names.{slot_of}
use Rattle.fp_memhost.specs.Files.{files_of}
use Rattle.fp_memhost.specs.Images.{listed_slot, rows_of, numbered, chosen_slot, with_bytes, bytes_for}

-- The entry of a name with a number: 0 is the present one, and n the n-th earlier one, the oldest
-- first
abbrev pub entry_in : Name → ℕ → Slot
entry_in name number = numbered (slot_of name.entry) (map slot_of name.earlier.items) number

-- `chosen` has the names of the view with their chosen entries
pub record ChoosesNames (v : View) (numbers : List (Elements × ℕ))
    (chosen : List (Elements × Entry)) : Type 0 where
  pub names : (q : Elements) → listed_slot chosen q ≡ chosen_slot v numbers q

-- `chosen` has the files with their chosen bytes
pub record ChoosesFiles (files : List Content) (bytes : List (ℕ × List ℕ))
    (chosen : List FileRow) : Type 0 where
  pub rows : (id : ℕ) → rows_of chosen id ≡ with_bytes (files_of files id) (bytes_for bytes id)

-- The path with the number of its earlier entries; nothing if it has none
abbrev pub choices_at : Elements → List (Option Entry) → List (Elements × ℕ)
choices_at p [] = []
choices_at p (e ∷ es) = (p, length (e ∷ es)) ∷ []

-- The names that have earlier entries, each with their number
abbrev pub choices_in : List Name → List (Elements × ℕ)
choices_in [] = []
choices_in (name ∷ names) = choices_at name.path name.earlier.items ++ choices_in names

-- The chosen bytes if there are some, else the file's own
abbrev pub bytes_of : List ℕ → Option (List ℕ) → List ℕ
bytes_of own None = own
bytes_of own (Some bytes) = bytes
