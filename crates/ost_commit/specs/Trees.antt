-- The dirtrees of a tree, from the deepest to the root's.
use Rattle.std.specs.Prelude.{◌≡◌, ◌<◌, ◌≤◌, ◌+◌, ◌-◌, ℕ, suc, List, [], ◌∷◌, ◌++◌, map, length, get_or, true, Some, None}
use Rattle.fp_host.specs.Paths.{Elements}
use Rattle.fp_base.specs.declared.object.ObjKind.TheVariants as kinds
use Rattle.ost_model.specs.declared.object.Object.{Object}
use Rattle.ost_model.specs.declared.object.Object.TheVariants as objects
use Rattle.ost_model.specs.declared.limits.TheConstants.{MOST_OBJECTS, MOST_LEVELS}
use Rattle.ost_model.specs.Fields.{DirRow}
use Rattle.ost_model.specs.Readers.{tree_of}
use Rattle.ost_model.specs.Objects.{Have, object_fault}
use Rattle.ost_model.specs.Order.{dir_places}
use Rattle.ost_commit.specs.declared.row.TreeRow.{TreeRow}
use Rattle.ost_commit.specs.declared.tree.Child.{Child}
use Rattle.ost_commit.specs.declared.tree.Child.TheVariants as child
use Rattle.ost_commit.specs.declared.tree.Folder.{Folder}
use Rattle.ost_commit.specs.declared.directories.Done.{Done}
use Rattle.ost_commit.specs.declared.directories.Dirtrees.{Dirtrees}
use Rattle.ost_object.specs.declared.dirtree.DirTree.{DirTree}
use Rattle.ost_object.specs.Views.{file_row, dir_row}
use Rattle.ost_commit.specs.Rows.{Said}
use Rattle.ost_commit.specs.Refusals.{is_content}
use Rattle.ost_commit.specs.Shows.{meta_at, plain_meta, IsThere, Shows}
use Rattle.ost_commit.specs.Folders.{put_at, Gathers}
use Rattle.ost_commit.specs.Digests.{AreDigests}
use Rattle.ost_commit.specs.Entries.{Names, with_file, with_dir, tree_rows}
use Rattle.ost_commit.specs.Tables.{object_in, PutsObject}

-- The directory with an index that was made, or an empty one
abbrev pub done_at : List Done → ℕ → Done
done_at ds j = get_or ds j (record { tree = []; places = 0 })

-- The digests of children: by the rows' digests, the dirmeta's digest and the directories that were
-- made
abbrev pub names_of : List (List ℕ) → List ℕ → List Done → Names
names_of contents meta ds =
    record { file = λ k. get_or contents k []; tree = λ j. (done_at ds j).tree; meta = meta }

-- The number of objects of a child, with repeats
abbrev pub child_places : List Done → Child → ℕ
child_places ds (child.Content k) = 1
child_places ds (child.Folder j) = (done_at ds j).places

-- The number of objects of children, with repeats
abbrev pub places_in : List Done → List (List ℕ × Child) → ℕ
places_in ds [] = 0
places_in ds (e ∷ es) = child_places ds e.1 + places_in ds es

-- Holds if the index in a child is that of one of this number of rows or directories
abbrev pub IsAmong : ℕ → ℕ → Child → Type 0
IsAmong rows folders (child.Content k) = k < rows
IsAmong rows folders (child.Folder j) = j < folders

-- Holds if the indices in children are those of this number of rows and directories
abbrev pub AreAmong : ℕ → ℕ → List (List ℕ × Child) → Type 0
AreAmong rows folders [] = Unit {0}
AreAmong rows folders (e ∷ es) = IsAmong rows folders e.1 × AreAmong rows folders es

-- A child was added to the end of a dirtree
pub record AddsEntry (names : Names) (x : List ℕ) (c : Child) (old new : DirTree) : Type 0 where
  pub files : map file_row new.files ≡ map file_row old.files ++ with_file names x c []
  pub dirs : map dir_row new.dirs ≡ map dir_row old.dirs ++ with_dir names x c []

-- The dirtree of a directory with these children was put under its digest
pub record AddsTree (contents : List (List ℕ)) (meta : List ℕ) (ds : List Done)
    (es : List (List ℕ × Child)) (old new : List (List ℕ × Object)) (done : Done) : Type 0 where
  pub bytes : List ℕ
  pub puts : PutsObject old new done.tree (objects.Meta bytes)
  pub good : object_fault done.tree kinds.DirTree (Some (objects.Meta bytes)) ≡ None
  pub reads : tree_of bytes ≡ Some (tree_rows (names_of contents meta ds) es)
  pub places : done.places ≡ 2 + places_in ds es
  pub few : done.places < MOST_OBJECTS

-- The row of a directory without a name
abbrev pub row_of : List ℕ → List ℕ → DirRow
row_of tree meta = record { name = []; tree = tree; meta = meta }

-- The objects of the rows' files and symlinks are present, and the dirmeta is that of every
-- directory
pub record Supports (rows : List TreeRow) (contents : List (List ℕ)) (meta : List ℕ)
    (have : Have) : Type 0 where
  pub there : (k : ℕ) → k < length rows → is_content (put_at rows k) ≡ true
      → IsThere have (get_or contents k []) kinds.File
  pub plain : meta_at have meta ≡ Some plain_meta

-- The dirtrees of a table are present
pub record HasTrees (trees : List (List ℕ × Object)) (have : Have) : Type 0 where
  pub each : (d : List ℕ) (o : Object) → object_in trees d ≡ Some o → have d kinds.DirTree ≡ Some o

-- The directories are those of some rows, with the digests of these rows
pub record AreGatheredFor (folders : List Folder) (contents : List (List ℕ)) : Type 0 where
  pub rows : List TreeRow
  pub said : Elements → Said
  pub gathers : Gathers rows said folders
  pub digests : AreDigests rows contents

-- In each source that has the dirtrees and the objects they name, the directory has the entries at
-- its path. It has at most the counted number of objects, which is below 200,000.
pub record IsWritten (rows : List TreeRow) (said : Elements → Said) (contents : List (List ℕ))
    (meta : List ℕ) (trees : List (List ℕ × Object)) (path : Elements) (done : Done) : Type 0 where
  pub shows : (have : Have) → HasTrees trees have → Supports rows contents meta have
      → Shows have said (suc MOST_LEVELS - length path) path (row_of done.tree meta)
  pub few : (have : Have) → HasTrees trees have → (levels depth : ℕ)
      → length (dir_places have levels depth (row_of done.tree meta)) ≤ done.places
  pub small : done.places < MOST_OBJECTS

-- The dirtree of the root is made, and the root has the entries of the rows
pub record IsRootWritten (rows : List TreeRow) (said : Elements → Said) (contents : List (List ℕ))
    (meta : List ℕ) (made : Dirtrees) : Type 0 where
  pub done : Done
  pub root : done.tree ≡ made.root
  pub written : IsWritten rows said contents meta made.trees.entries [] done
