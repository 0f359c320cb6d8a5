-- One path of a commit, followed name by name.
use Rattle.std.specs.Prelude.{◌≡◌, ℕ, suc, ◌+◌, List, [], ◌∷◌, ◌++◌, length, if◌then◌else◌, Option, Some, None}
use Rattle.std.specs.Str.{bytes_eq}
use Rattle.fp_host.specs.Paths.{Elements}
use Rattle.fp_base.specs.declared.object.ObjKind.TheVariants as kinds
use Rattle.ost_model.specs.declared.limits.TheConstants.{MOST_LEVELS}
use Rattle.ost_model.specs.Fields.{DirRow, FileRow, CommitView, TreeView}
use Rattle.ost_model.specs.Objects.{Have, Fault}
use Rattle.ost_model.specs.Order.{Place, In, tree_at, commit_at, root_row, tree_place, commit_place, dir_places, order, place_fault, first_of}

-- The entry of a commit at a path: nothing, a directory, or a file or symlink with this digest
pub data Found : Type 0 where
  nothing : Found
  directory : DirRow → Found
  file_at : List ℕ → Found

-- The first directory with a name
abbrev pub find_dir : List ℕ → List DirRow → Option DirRow
find_dir x [] = None
find_dir x (e ∷ es) = if bytes_eq e.name x then Some e else find_dir x es

-- The first file with a name
abbrev pub find_file : List ℕ → List FileRow → Option FileRow
find_file x [] = None
find_file x (f ∷ fs) = if bytes_eq f.name x then Some f else find_file x fs

-- The directory if there is one, else the file, else nothing
abbrev pub either : Option DirRow → Option FileRow → Found
either (Some e) f = directory e
either None (Some f) = file_at f.digest
either None None = nothing

-- The entry of a dirtree with the name `x`; nothing if the dirtree can't be read
abbrev pub entry_in : List ℕ → Option TreeView → Found
entry_in x None = nothing
entry_in x (Some v) = either (find_dir x v.dirs) (find_file x v.files)

-- The digest of a file that was found
abbrev pub file_in : Found → Option (List ℕ)
file_in nothing = None
file_in (directory e) = None
file_in (file_at d) = Some d

-- The entry with the name `x` in the directory that was found; nothing if no directory was found
abbrev pub next : Have → List ℕ → Found → Found
next have x nothing = nothing
next have x (file_at d) = nothing
next have x (directory e) = entry_in x (tree_at have e.tree)

-- The root directory of a commit; nothing if it can't be read
abbrev pub at_root : Option CommitView → Found
at_root None = nothing
at_root (Some c) = directory (root_row c)

-- The entry of a commit at a path, whose elements are listed the innermost first
abbrev pub look : Have → List ℕ → Elements → Found
look have commit [] = at_root (commit_at have commit)
look have commit (x ∷ up) = next have x (look have commit up)

-- The place of a directory's dirtree, if a directory was found at this depth
abbrev pub found_places : ℕ → Found → List Place
found_places depth nothing = []
found_places depth (file_at d) = []
found_places depth (directory e) = tree_place depth e ∷ []

-- The places that are read on a path: the commit, and the dirtree of each directory on it, also of
-- the last one
abbrev pub look_places : Have → List ℕ → Elements → List Place
look_places have commit [] = commit_place commit ∷ found_places 0 (look have commit [])
look_places have commit (x ∷ up) =
    look_places have commit up ++ found_places (length (x ∷ up)) (look have commit (x ∷ up))

-- The first fault among the objects that are read on a path. The limit on the depth applies, but
-- not the one on the number of objects.
abbrev pub look_fault : Have → List ℕ → Elements → Option (Place × Fault)
look_fault have commit path = first_of (λ n. place_fault have 0) 0 (look_places have commit path)

-- The directory is in the order of a commit, with all that is in it
pub record Reached (have : Have) (commit : List ℕ) (e : DirRow) : Type 0 where
  pub fuel : ℕ
  pub depth : ℕ
  pub sum : fuel + depth ≡ suc MOST_LEVELS
  pub sub : (p : Place) → In (dir_places have fuel depth e) p → In (order have commit) p

-- A file or symlink of this digest is in the order of a commit
pub record FileReached (have : Have) (commit digest : List ℕ) : Type 0 where
  pub place : Place
  pub within : In (order have commit) place
  pub digest_is : place.digest ≡ digest
  pub kind_is : place.kind ≡ kinds.File
