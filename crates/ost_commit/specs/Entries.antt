-- The children of a directory, as its dirtree lists them.
use Rattle.std.specs.Prelude.{ℕ, List, [], ◌∷◌, Option, Some, None}
use Rattle.ost_model.specs.Fields.{DirRow, FileRow, TreeView}
use Rattle.ost_model.specs.Look.{Found, nothing, directory, file_at}
use Rattle.ost_commit.specs.declared.tree.Child.{Child}
use Rattle.ost_commit.specs.declared.tree.Child.TheVariants as child

-- The digests of children: `file` is that of a row's file or symlink, `tree` that of a directory's
-- dirtree, and `meta` that of every directory's dirmeta
pub record Names : Type 0 where
  pub file : ℕ → List ℕ
  pub tree : ℕ → List ℕ
  pub meta : List ℕ

-- The files with a child in front, if it is a file or a symlink
abbrev pub with_file : Names → List ℕ → Child → List FileRow → List FileRow
with_file names x (child.Content k) fs = record { name = x; digest = names.file k } ∷ fs
with_file names x (child.Folder j) fs = fs

-- The directories with a child in front, if it is a directory
abbrev pub with_dir : Names → List ℕ → Child → List DirRow → List DirRow
with_dir names x (child.Content k) ds = ds
with_dir names x (child.Folder j) ds =
    record { name = x; tree = names.tree j; meta = names.meta } ∷ ds

-- The files and symlinks among the children, in order
abbrev pub file_rows : Names → List (List ℕ × Child) → List FileRow
file_rows names [] = []
file_rows names (e ∷ es) = with_file names e.0 e.1 (file_rows names es)

-- The directories among the children, in order
abbrev pub dir_rows : Names → List (List ℕ × Child) → List DirRow
dir_rows names [] = []
dir_rows names (e ∷ es) = with_dir names e.0 e.1 (dir_rows names es)

-- The dirtree of a directory with these children
abbrev pub tree_rows : Names → List (List ℕ × Child) → TreeView
tree_rows names es = record { files = file_rows names es; dirs = dir_rows names es }

-- The result of looking up the name of a child
abbrev pub child_found : Names → List ℕ → Option Child → Found
child_found names x None = nothing
child_found names x (Some (child.Content k)) = file_at (names.file k)
child_found names x (Some (child.Folder j)) =
    directory (record { name = x; tree = names.tree j; meta = names.meta })
