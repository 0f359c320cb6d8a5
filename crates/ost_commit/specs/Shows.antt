-- Directories in objects, compared with the entries that rows state.
use Rattle.std.specs.Prelude.{◌≡◌, ℕ, zero, suc, List, [], ◌∷◌, true, Option, Some, None}
use Rattle.fp_host.specs.Paths.{Elements}
use Rattle.fp_base.specs.declared.object.ObjKind.{ObjKind}
use Rattle.fp_base.specs.declared.object.ObjKind.TheVariants as kinds
use Rattle.ost_model.specs.declared.object.Object.{Object}
use Rattle.ost_model.specs.Fields.{DirRow, FileRow, MetaView, TreeView}
use Rattle.ost_model.specs.Readers.{meta_of}
use Rattle.ost_model.specs.Objects.{Have, object_fault}
use Rattle.ost_model.specs.Order.{In, read_as, tree_at}
use Rattle.ost_model.specs.Look.{Found, nothing, directory, file_at, entry_in}
use Rattle.ost_commit.specs.declared.limits.TheConstants.{DIRECTORY_MODE}
use Rattle.ost_commit.specs.Rows.{Said, no_entry, a_directory, content}

-- The entry that was found at a path
abbrev pub found_said : Found → Said
found_said nothing = no_entry
found_said (directory e) = a_directory
found_said (file_at d) = content d

-- The content of a dirmeta, if it has this digest and is valid
abbrev pub meta_at : Have → List ℕ → Option MetaView
meta_at have d = read_as meta_of (have d kinds.DirMeta)

-- The dirmeta of every directory: owner and group 0, the mode 040755 (octal), no extended
-- attributes
abbrev pub plain_meta : MetaView
plain_meta = record { uid = 0; gid = 0; mode = DIRECTORY_MODE; bare = true }

-- The object is present
pub record IsThere (have : Have) (d : List ℕ) (kind : ObjKind) : Type 0 where
  pub object : Object
  pub is : have d kind ≡ Some object

-- The directory has the entries at its path: its dirtree is valid, its dirmeta is that of every
-- directory, each name in it is an entry, and the objects of its files and symlinks are present.
-- `D` holds of each directory in it.
pub record ShowsTree (have : Have) (D : Elements → DirRow → Type 0) (said : Elements → Said)
    (path : Elements) (e : DirRow) : Type 0 where
  pub view : TreeView
  pub tree : tree_at have e.tree ≡ Some view
  pub meta : meta_at have e.meta ≡ Some plain_meta
  pub each : (x : List ℕ) → found_said (entry_in x (Some view)) ≡ said (x ∷ path)
  pub files : (f : FileRow) → In view.files f → IsThere have f.digest kinds.File
  pub dirs : (d : DirRow) → In view.dirs d → D (d.name ∷ path) d

-- Holds if the directory and those below it have the entries at their paths, for at most this
-- number of levels
abbrev pub Shows : Have → (Elements → Said) → ℕ → Elements → DirRow → Type 0
Shows have said zero path e = ⊥
Shows have said (suc levels) path e = ShowsTree have (Shows have said levels) said path e

-- The root is a directory, and only directories have entries below them
pub record IsTree (said : Elements → Said) : Type 0 where
  pub root : said [] ≡ a_directory
  pub closed : (x : List ℕ) (up : Elements) → (said up ≡ a_directory → ⊥) → said (x ∷ up) ≡ no_entry

-- Each object has no fault
pub record AreGood (have : Have) : Type 0 where
  pub good : (d : List ℕ) (kind : ObjKind) (object : Object) → have d kind ≡ Some object
      → object_fault d kind (Some object) ≡ None

-- The source `j` has all objects that `i` has
pub record Grows (i j : Have) : Type 0 where
  pub kept : (d : List ℕ) (kind : ObjKind) (object : Object) → i d kind ≡ Some object
      → j d kind ≡ Some object
