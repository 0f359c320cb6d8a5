-- Opening of an image, name by name.
use Rattle.std.specs.Prelude.{◌≡◌, ◌&&◌, ℕ, Bool, true, false, List, [], ◌∷◌, Some, if◌then◌else◌}
use Rattle.fp_host.specs.Paths.{Elements, Slot, absent, dir, file, link, path_eq}
use Rattle.fp_host.specs.declared.host.Entry.{Entry}
use Rattle.fp_memhost.specs.declared.image.FileRow.{FileRow}
use Rattle.fp_memhost.specs.declared.names.Name.{Name}
use Rattle.fp_memhost.specs.declared.files.Content.{Content}
use Rattle.fp_memhost.specs.Names.{slot_of, names_of}
use Rattle.fp_memhost.specs.Files.{files_of, dirty_of}
use Rattle.fp_memhost.specs.Images.{slots_of, rows_of}

-- Tests whether an entry is a directory
abbrev pub is_folder : Slot → Bool
is_folder dir = true
is_folder absent = false
is_folder (file id) = false
is_folder (link text) = false

-- Tests whether each ancestor of a path is a directory in the list
abbrev pub is_open : List (Elements × Entry) → Elements → Bool
is_open names [] = true
is_open names (x ∷ up) = is_folder (slots_of names up) && is_open names up

-- Tests whether a path counts in the opened image: it isn't the root, and each of its ancestors is
-- a directory in the list
abbrev pub may_stand : List (Elements × Entry) → Elements → Bool
may_stand names [] = false
may_stand names (x ∷ up) = is_open names (x ∷ up)

-- The previous entries with those of the listed names that count (`may_stand`); if a name is listed
-- twice, its first entry counts
abbrev pub built : List (Elements × Entry) → (Elements → Slot) → List (Elements × Entry)
    → Elements → Slot
built names stood [] q = stood q
built names stood (x ∷ xs) q =
    if may_stand names x.0 && path_eq q x.0 then slot_of (Some x.1) else built names stood xs q

-- The name of `p` was given the entry if `counts` is true
pub record AddsName (counts : Bool) (p : Elements) (e : Slot) (old new : List Name) : Type 0 where
  pub names : (q : Elements)
      → names_of new q ≡ (if counts && path_eq q p then e else names_of old q)

-- The listed names that count (`may_stand`) were given their entries
pub record AddsNames (listed : List (Elements × Entry)) (old new : List Name) : Type 0 where
  pub names : (q : Elements) → names_of new q ≡ built listed (names_of old) listed q

-- `opened` has the listed files, none of them created since the last sync
pub record OpensFiles (rows : List FileRow) (opened : List Content) : Type 0 where
  pub files : (id : ℕ) → files_of opened id ≡ rows_of rows id
  pub dirty : (id : ℕ) → dirty_of opened id ≡ false
