-- Looking up a path of a commit, step by step.
use Rattle.std.specs.Prelude.{◌≡◌, ◌≤◌, ℕ, List, length, Some, None}
use Rattle.fp_host.specs.Paths.{Elements}
use Rattle.ost_model.specs.declared.limits.TheConstants.{MOST_LEVELS}
use Rattle.ost_model.specs.Fields.{DirRow, FileRow, TreeView}
use Rattle.ost_model.specs.Objects.{Have}
use Rattle.ost_model.specs.Order.{tree_at}
use Rattle.ost_model.specs.Look.{nothing, directory, file_at, look, look_fault}
use Rattle.ost_model.specs.Look.{Found as ModelFound}
use Rattle.ost_object.specs.Views.{tree_view}
use Rattle.ost_walk.specs.declared.found.Found.{Found}
use Rattle.ost_walk.specs.declared.found.Found.TheVariants as found
use Rattle.ost_walk.specs.declared.found.Here.{Here}
use Rattle.ost_walk.specs.declared.found.Here.TheVariants as here

-- The digest of a file in a dirtree
abbrev pub file_digest : FileRow → List ℕ
file_digest f = f.digest

-- The result of looking up a path, by what the model finds
abbrev pub found_of : ModelFound → Found
found_of nothing = found.Nothing
found_of (directory e) = found.Dir
found_of (file_at d) = found.File d

-- The result is what the commit has at the path, and no object on the path has a fault
pub record IsFound (have : Have) (commit : List ℕ) (path : Elements) (f : Found) : Type 0 where
  pub is : f ≡ found_of (look have commit path)
  pub clean : look_fault have commit path ≡ None

-- There is a directory with this dirtree at the path, which is `depth` levels below the root, and
-- no object on the path has a fault
pub record IsDirAt (have : Have) (commit : List ℕ) (path : Elements) (tree : TreeView)
    (depth : ℕ) : Type 0 where
  pub row : DirRow
  pub is : look have commit path ≡ directory row
  pub read : tree_at have row.tree ≡ Some tree
  pub deep : depth ≡ length path
  pub clean : look_fault have commit path ≡ None

-- The model finds `f` at the path, and no object on the path has a fault
pub record IsLeafAt (have : Have) (commit : List ℕ) (path : Elements) (f : ModelFound) : Type 0
  where
    pub is : look have commit path ≡ f
    pub clean : look_fault have commit path ≡ None

-- Holds if `Here` is what the commit has at the path, and no object on the path has a fault
abbrev pub IsHere : Have → List ℕ → Elements → Here → Type 0
IsHere have commit path (here.Dir tree depth) = IsDirAt have commit path (tree_view tree) depth
IsHere have commit path (here.File d) = IsLeafAt have commit path (file_at d)
IsHere have commit path here.Nothing = IsLeafAt have commit path nothing

-- Holds if a directory that was reached is at most 64 levels below the root
abbrev pub IsLow : Here → Type 0
IsLow (here.Dir tree depth) = depth ≤ MOST_LEVELS
IsLow (here.File d) = Unit {0}
IsLow here.Nothing = Unit {0}
