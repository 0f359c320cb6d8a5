-- The directories of a tree, as they are gathered row by row.
use Rattle.std.specs.Prelude.{◌≡◌, ◌<◌, ◌≤◌, ◌+◌, ℕ, zero, suc, List, [], ◌∷◌, length, drop, slice_set, Bool, true, false, ◌||◌, not, Option, Some, None, if◌then◌else◌}
use Rattle.std.specs.Str.{bytes_eq}
use Rattle.std.specs.Ordering.{nat_cmp}
use Rattle.std.specs.Cmp.Lexicographic.{slice_cmp}
use Rattle.std.specs.BTreeMap.{is_at}
use Rattle.std.specs.Map.{lookup}
use Rattle.fp_host.specs.Paths.{Elements, path_eq, is_element}
use Rattle.ost_model.specs.declared.limits.TheConstants.{MOST_LEVELS}
use Rattle.ost_commit.specs.declared.limits.TheConstants.{MOST_NAMES}
use Rattle.ost_commit.specs.declared.row.TreeRow.{TreeRow}
use Rattle.ost_commit.specs.declared.tree.Child.{Child}
use Rattle.ost_commit.specs.declared.tree.Child.TheVariants as child
use Rattle.ost_commit.specs.declared.tree.Folder.{Folder}
use Rattle.ost_commit.specs.declared.tree.Tree.{Tree}
use Rattle.ost_commit.specs.Rows.{Said, no_entry, a_directory, row_path, put_by, said_by, is_above, first_said}
use Rattle.ost_commit.specs.Refusals.{is_nothing, is_content, is_clear, new_names, may_stand, is_taken}
use Rattle.ost_commit.specs.Shows.{IsTree}

-- Holds if this is the element with an index
abbrev pub At : {A : Type 0} → List A → ℕ → A → Type 0
At [] i a = ⊥
At (x ∷ xs) zero a = x ≡ a
At (x ∷ xs) (suc i) a = At xs i a

-- The child with a name
abbrev pub child_in : List (List ℕ × Child) → List ℕ → Option Child
child_in es x = lookup (is_at (slice_cmp nat_cmp x)) es

-- The index of the directory that a child is
abbrev pub folder_place : Child → Option ℕ
folder_place (child.Content k) = None
folder_place (child.Folder j) = Some j

-- The entry that the row with an index puts at its path
abbrev pub put_at : List TreeRow → ℕ → Said
put_at [] k = no_entry
put_at (r ∷ rs) zero = put_by r
put_at (r ∷ rs) (suc k) = put_at rs k

-- The entry that a child is
abbrev pub child_said : List TreeRow → Option Child → Said
child_said rows None = no_entry
child_said rows (Some (child.Content k)) = put_at rows k
child_said rows (Some (child.Folder j)) = a_directory

-- The entries with one more at a path, if there was none
abbrev pub with_entry : (Elements → Said) → Elements → Said → Elements → Said
with_entry said p entry q = first_said (said q) (if path_eq q p then entry else no_entry)

-- The entries with a directory at a path and at each path above it, where there was none
abbrev pub with_above : (Elements → Said) → Elements → Elements → Said
with_above said p q =
    first_said (said q) (if path_eq q p || is_above q p then a_directory else no_entry)

-- The entries with those of a row, where there was none
abbrev pub with_row : (Elements → Said) → TreeRow → Elements → Said
with_row said r q = first_said (said q) (said_by r q)

-- The list has each directory of the entries once. The first is the root, each comes before those
-- in it, and the children of each are the entries below its path. The children that are files or
-- symlinks are indices of their rows.
pub record Gathers (rows : List TreeRow) (said : Elements → Said) (folders : List Folder) : Type 0
  where
    pub tree : IsTree said
    pub root : (f : Folder) × At folders 0 f × (f.path ≡ [])
    pub path : (i : ℕ) (f : Folder) → At folders i f → said f.path ≡ a_directory
    pub shallow : (i : ℕ) (f : Folder) → At folders i f → length f.path ≤ MOST_LEVELS
    pub each : (i : ℕ) (f : Folder) (x : List ℕ) → At folders i f
        → child_said rows (child_in f.children.entries x) ≡ said (x ∷ f.path)
    pub below : (i : ℕ) (f : Folder) (x : List ℕ) (j : ℕ) → At folders i f
        → child_in f.children.entries x ≡ Some (child.Folder j)
        → (i < j) × ((g : Folder) × At folders j g × (g.path ≡ x ∷ f.path))
    pub apart : (i j : ℕ) (f g : Folder) → At folders i f → At folders j g → f.path ≡ g.path → i ≡ j
    pub inside : (i : ℕ) (f : Folder) (x : List ℕ) (k : ℕ) → At folders i f
        → child_in f.children.entries x ≡ Some (child.Content k)
        → (k < length rows) × (is_content (put_at rows k) ≡ true)
    pub named : (i : ℕ) (f : Folder) (x : List ℕ) (c : Child) → At folders i f
        → child_in f.children.entries x ≡ Some c → is_element x ≡ true

-- The directories are those of some entries, by some rows
pub record AreGathered (folders : List Folder) : Type 0 where
  pub rows : List TreeRow
  pub said : Elements → Said
  pub gathers : Gathers rows said folders

-- The directory with this index has this path
pub record FolderAt (folders : List Folder) (i : ℕ) (path : Elements) : Type 0 where
  pub folder : Folder
  pub at : At folders i folder
  pub is : folder.path ≡ path

-- The number of names that an entry at a path adds: 1 if there was none, else 0
abbrev pub new_at : (Elements → Said) → Elements → ℕ
new_at said p = if is_nothing (said p) then 1 else 0

-- The number of names that an entry at a path adds, where the root is no name
abbrev pub new_root_at : (Elements → Said) → Elements → ℕ
new_root_at said [] = 0
new_root_at said (x ∷ up) = new_at said (x ∷ up)

-- The number of names in the directories
abbrev pub names_in : List Folder → ℕ
names_in [] = 0
names_in (f ∷ fs) = length f.children.entries + names_in fs

-- The number of names was increased by at least the number of new names, and by at least that of
-- new directories
pub record Counts (old new : Tree) : Type 0 where
  pub names : names_in new.folders.items + old.names ≤ names_in old.folders.items + new.names
  pub folders : length new.folders.items + old.names ≤ length old.folders.items + new.names

-- There are at most 40,000 names, and at most one directory more
pub record AreFew (fs : List Folder) : Type 0 where
  pub names : names_in fs ≤ MOST_NAMES
  pub folders : length fs ≤ MOST_NAMES + 1

-- The directory `g` has the children of `f` and the child `c` with the name `x`
pub record HasNew (f g : Folder) (x : List ℕ) (c : Child) : Type 0 where
  pub path : g.path ≡ f.path
  pub children : (y : List ℕ) → child_in g.children.entries y
      ≡ (if bytes_eq x y then Some c else child_in f.children.entries y)
  pub few : length g.children.entries ≤ length f.children.entries + 1

-- A child was added to the directory with this index
pub record PutsChild (i : ℕ) (x : List ℕ) (c : Child) (old new : Tree) : Type 0 where
  pub folders : (f : Folder) → At old.folders.items i f
      → (g : Folder) × HasNew f g x c × (new.folders.items ≡ slice_set old.folders.items i g)
  pub names : new.names ≡ old.names + 1

-- The directory with the index `j` is at the path, and may have been added
pub record Entered (rows : List TreeRow) (said : Elements → Said) (path : Elements)
    (old new : Tree) (j : ℕ) : Type 0 where
  pub clear : is_content (said path) ≡ false
  pub gathers : Gathers rows (with_entry said path a_directory) new.folders.items
  pub at : FolderAt new.folders.items j path
  pub names : new.names ≡ old.names + new_at said path
  pub counts : Counts old new

-- Holds if the directory at the path has this index and may have been added, or if there is no
-- index and a file or a symlink is at the path
abbrev pub Enters : List TreeRow → (Elements → Said) → Elements → Tree → Tree → Option ℕ → Type 0
Enters rows said path old new None = is_content (said path) ≡ true
Enters rows said path old new (Some j) = Entered rows said path old new j

-- The directory with the index `j` is at the path; it and those above it may have been added
pub record Reached (rows : List TreeRow) (said : Elements → Said) (path : Elements)
    (old new : Tree) (j : ℕ) : Type 0 where
  pub clear : is_content (said path) ≡ false
  pub above : is_clear said path ≡ true
  pub gathers : Gathers rows (with_above said path) new.folders.items
  pub at : FolderAt new.folders.items j path
  pub names : new.names ≡ old.names + new_names said path
  pub counts : Counts old new

-- Holds if the directory above the path has this index and may have been added with those above it,
-- or if there is no index and a file or a symlink is above the path
abbrev pub Reaches : List TreeRow → (Elements → Said) → Elements → Tree → Tree → Option ℕ → Type 0
Reaches rows said path old new None = is_clear said path ≡ false
Reaches rows said path old new (Some j) = Reached rows said (drop 1 path) old new j

-- A directory was added at the path if and only if no file or symlink is there. It may have been
-- there already.
pub record TakesFolder (rows : List TreeRow) (said : Elements → Said) (path : Elements)
    (old new : Tree) (taken : Bool) : Type 0 where
  pub is : taken ≡ not (is_content (said path))
  pub gathers : taken ≡ true → Gathers rows (with_entry said path a_directory) new.folders.items
  pub names : taken ≡ true → new.names ≡ old.names + new_root_at said path
  pub counts : taken ≡ true → Counts old new

-- A file or a symlink was added at the path if and only if nothing was there
pub record TakesContent (rows : List TreeRow) (said : Elements → Said) (path : Elements)
    (entry : Said) (old new : Tree) (taken : Bool) : Type 0 where
  pub is : taken ≡ is_nothing (said path)
  pub gathers : taken ≡ true → Gathers rows (with_entry said path entry) new.folders.items
  pub names : taken ≡ true → new.names ≡ old.names + 1
  pub counts : taken ≡ true → Counts old new

-- A row was added to the directory above its path if and only if its path may have it
pub record PutsRow (rows : List TreeRow) (said : Elements → Said) (r : TreeRow) (old new : Tree)
    (taken : Bool) : Type 0 where
  pub is : taken ≡ may_stand r (said (row_path r))
  pub gathers : taken ≡ true
      → Gathers rows (with_entry said (row_path r) (put_by r)) new.folders.items
  pub names : taken ≡ true → new.names ≡ old.names + new_root_at said (row_path r)
  pub counts : taken ≡ true → Counts old new

-- A row was added to the tree if and only if it is not refused
pub record Takes (rows : List TreeRow) (said : Elements → Said) (r : TreeRow) (old new : Tree)
    (taken : Bool) : Type 0 where
  pub is : taken ≡ is_taken said old.names r
  pub gathers : taken ≡ true → Gathers rows (with_row said r) new.folders.items
  pub names : taken ≡ true → new.names ≡ old.names + new_names said (row_path r)
  pub counts : taken ≡ true → Counts old new
