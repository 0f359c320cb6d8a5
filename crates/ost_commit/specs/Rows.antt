-- The entries that the rows of a tree state.
use Rattle.std.specs.Prelude.{ℕ, List, [], ◌∷◌, Bool, false, ◌||◌, if◌then◌else◌}
use Rattle.fp_host.specs.Paths.{Elements, path_eq}
use Rattle.ost_model.specs.Contents.{file_digest, link_digest}
use Rattle.ost_commit.specs.declared.row.TreeRow.{TreeRow}
use Rattle.ost_commit.specs.declared.row.TreeRow.TheVariants as row

-- The entry at a path, as rows state it
pub data Said : Type 0 where
  no_entry : Said
  a_directory : Said
  -- The digest of a file or a symlink
  content : List ℕ → Said

-- The path of a row
abbrev pub row_path : TreeRow → Elements
row_path (row.Dir path) = path
row_path (row.File path mode bytes) = path
row_path (row.Link path target) = path

-- The entry that a row puts at its path
abbrev pub put_by : TreeRow → Said
put_by (row.Dir path) = a_directory
put_by (row.File path mode bytes) = content (file_digest mode bytes)
put_by (row.Link path target) = content (link_digest target)

-- Tests whether the first path is that of a directory above the second
abbrev pub is_above : Elements → Elements → Bool
is_above q [] = false
is_above q (x ∷ up) = path_eq q up || is_above q up

-- The entries of one row: its own at its path, a directory at each path above it, and nothing
-- elsewhere
abbrev pub said_by : TreeRow → Elements → Said
said_by r q = if path_eq q (row_path r) then put_by r
    else (if is_above q (row_path r) then a_directory else no_entry)

-- The first of two entries, or the second if the first is nothing
abbrev pub first_said : Said → Said → Said
first_said no_entry b = b
first_said a_directory b = a_directory
first_said (content d) b = content d

-- The entries of rows
abbrev pub said_by_rows : List TreeRow → Elements → Said
said_by_rows [] q = no_entry
said_by_rows (r ∷ rs) q = first_said (said_by r q) (said_by_rows rs q)

-- The entry of the root, which is a directory
abbrev pub said_of_root : Elements → Said
said_of_root [] = a_directory
said_of_root (x ∷ up) = no_entry

-- The entries of rows, and of the root
abbrev pub says : List TreeRow → Elements → Said
says rs q = first_said (said_of_root q) (said_by_rows rs q)
