-- The list of a commit's paths, extended directory by directory.
use Rattle.std.specs.Prelude.{◌≡◌, ◌≤◌, ◌+◌, ℕ, List, ◌++◌, length, slice_index_or, Option, Some, None}
use Rattle.fp_host.specs.Paths.{Elements}
use Rattle.fp_host.specs.View.{View}
use Rattle.fp_host.specs.Outcome.{shows}
use Rattle.ost_model.specs.declared.limits.TheConstants.{MOST_OBJECTS}
use Rattle.ost_model.specs.Fields.{CommitView, TreeView}
use Rattle.ost_model.specs.Objects.{store}
use Rattle.ost_model.specs.Order.{tree_at, commit_at, first_fault}
use Rattle.ost_checkout.specs.declared.rows.Row.{Row}
use Rattle.ost_checkout.specs.declared.rows.Entry.{Entry}
use Rattle.ost_checkout.specs.declared.rows.Entry.TheVariants as entries
use Rattle.ost_checkout.specs.Rows.{rows_in, AreRows}
use Rattle.ost_checkout.specs.Reading.{HasTree}

-- The maximum number of rows, which is that of a commit's objects
abbrev pub most_rows : ℕ
most_rows = MOST_OBJECTS

-- The row is at this index
abbrev pub IsAt : List Row → ℕ → Row → Type 0
IsAt rows i row = slice_index_or rows i row ≡ row

-- `found` is the directory at this index, by its dirtree and its path; or nothing, if a file or
-- symlink is there
abbrev pub IsDirAt : List Row → ℕ → Option (List ℕ × Elements) → Type 0
IsDirAt rows i (Some found) =
    (meta : List ℕ) × IsAt rows i (record { path = found.1; entry = entries.Dir found.0 meta })
IsDirAt rows i None =
    (path : Elements) × (d : List ℕ) × IsAt rows i (record { path = path; entry = entries.File d })

-- The entries of the directory with this dirtree were appended
pub record ExpandsDir (root : Elements) (d : List ℕ) (path : Elements) (v : View)
    (rows rows' : List Row) : Type 0 where
  pub view : TreeView
  pub read : tree_at (store root (shows v)) d ≡ Some view
  pub grown : rows' ≡ rows ++ rows_in path view

-- The entries of a directory were appended; nothing for a file or symlink
abbrev pub ExpandsEntry : Elements → Elements → Entry → View → List Row → List Row → Type 0
ExpandsEntry root path (entries.Dir tree meta) v rows rows' = ExpandsDir root tree path v rows rows'
ExpandsEntry root path (entries.File d) v rows rows' = rows' ≡ rows

-- The entries in the row at this index were appended
pub record Expands (root : Elements) (i : ℕ) (v : View) (rows rows' : List Row) : Type 0 where
  pub row : Row
  pub at : IsAt rows i row
  pub is : ExpandsEntry root row.path row.entry v rows rows'

-- The dirtree has no fault, and a list of `listed` rows has room for its entries
pub record CanExpandDir (root : Elements) (d : List ℕ) (listed : ℕ) (v : View) : Type 0 where
  pub tree : HasTree root d v
  pub room : (view : TreeView) → tree_at (store root (shows v)) d ≡ Some view
      → listed + (length view.files + length view.dirs) ≤ most_rows

-- If the row at this index is a directory, its dirtree has no fault, and the list has room for its
-- entries
pub record CanExpand (root : Elements) (i : ℕ) (rows : List Row) (v : View) : Type 0 where
  pub dir : (path : Elements) (tree meta : List ℕ)
      → IsAt rows i (record { path = path; entry = entries.Dir tree meta })
      → CanExpandDir root tree (length rows) v

-- The rows are the paths of the commit
abbrev pub HasRows : Elements → List ℕ → Elements → View → List Row → Type 0
HasRows root commit to v rows = AreRows (store root (shows v)) commit to rows

-- The row is that of the checkout's directory itself
pub record IsFirstRow (root : Elements) (commit : List ℕ) (to : Elements) (v : View)
    (row : Row) : Type 0 where
  pub path : row.path ≡ to
  pub view : CommitView
  pub read : commit_at (store root (shows v)) commit ≡ Some view
  pub entry : row.entry ≡ entries.Dir view.tree view.meta

-- The commit has no fault in the store at `root`
pub record CanListRows (root : Elements) (commit : List ℕ) (v : View) : Type 0 where
  pub whole : first_fault (store root (shows v)) commit ≡ None
