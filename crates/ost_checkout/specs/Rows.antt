-- The paths of a commit as a list of rows.
use Rattle.std.specs.Prelude.{◌≡◌, ℕ, List, [], ◌∷◌, ◌++◌, map, Contains}
use Rattle.fp_host.specs.Paths.{Elements}
use Rattle.ost_model.specs.Fields.{FileRow, DirRow, TreeView}
use Rattle.ost_model.specs.Objects.{Have}
use Rattle.ost_model.specs.Look.{Found, nothing, directory, file_at, look}
use Rattle.ost_checkout.specs.declared.rows.Row.{Row}
use Rattle.ost_checkout.specs.declared.rows.Entry.{Entry}
use Rattle.ost_checkout.specs.declared.rows.Entry.TheVariants as entries

-- The row of a file or symlink in the directory at the path
abbrev pub row_of_file : Elements → FileRow → Row
row_of_file path f = record { path = f.name ∷ path; entry = entries.File f.digest }

-- The row of a directory in the directory at the path
abbrev pub row_of_dir : Elements → DirRow → Row
row_of_dir path e = record { path = e.name ∷ path; entry = entries.Dir e.tree e.meta }

-- The rows of a directory's entries, the files and symlinks first
abbrev pub rows_in : Elements → TreeView → List Row
rows_in path view = map (row_of_file path) view.files ++ map (row_of_dir path) view.dirs

-- The path of a row
abbrev pub path_of : Row → Elements
path_of row = row.path

-- The paths of rows
abbrev pub paths_of : List Row → List Elements
paths_of rows = map path_of rows

-- The entry is a directory
abbrev pub IsDir : Entry → Type 0
IsDir (entries.Dir tree meta) = Unit {0}
IsDir (entries.File d) = ⊥

-- The entry is what the commit has at a path
abbrev pub IsFoundAs : Entry → Found → Type 0
IsFoundAs (entries.Dir tree meta) found =
    (name : List ℕ) × (found ≡ directory (record { name = name; tree = tree; meta = meta }))
IsFoundAs (entries.File d) found = found ≡ file_at d

-- The row's path is one of the commit's in the directory `to`, and its entry is what the commit has
-- there
pub record IsRowOf (have : Have) (commit : List ℕ) (to : Elements) (row : Row) : Type 0 where
  pub rest : Elements
  pub at : row.path ≡ rest ++ to
  pub is : IsFoundAs row.entry (look have commit rest)

-- The path is directly in a directory of the rows
pub record HasParent (rows : List Row) (path : Elements) : Type 0 where
  pub parent : Row
  pub among : Contains rows parent
  pub name : List ℕ
  pub is : path ≡ name ∷ parent.path
  pub dir : IsDir parent.entry

-- Each row of the second list is directly in a directory of a row before it, and no path occurs
-- twice
abbrev pub AreSteps : List Row → List Row → Type 0
AreSteps before [] = Unit {0}
AreSteps before (row ∷ rows) = HasParent before row.path
    × (Contains (paths_of before) row.path → ⊥) × AreSteps (before ++ row ∷ []) rows

-- The first row is the directory `to` itself, and each further row is directly in a directory of a
-- row before it
abbrev pub IsLadder : Elements → List Row → Type 0
IsLadder to [] = ⊥
IsLadder to (row ∷ rows) = (row.path ≡ to) × AreSteps (row ∷ []) rows

-- The rows are the paths of the commit, each once, and each after the directory that contains it
pub record AreRows (have : Have) (commit : List ℕ) (to : Elements) (rows : List Row) : Type 0 where
  pub each : (row : Row) → Contains rows row → IsRowOf have commit to row
  pub all : (rest : Elements) → (look have commit rest ≡ nothing → ⊥)
      → Contains (paths_of rows) (rest ++ to)
  pub ladder : IsLadder to rows
