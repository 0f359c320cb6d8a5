-- The fields of metadata objects.
use Rattle.std.specs.Prelude.{ℕ, Bool, true, false, List, [], ◌∷◌, Option, Some, None, option_map, option_and_then}
use Rattle.std.specs.Int.{w32, w64, swap_bytes}
use Rattle.gv_value.specs.declared.basic.Basic.TheVariants as basics
use Rattle.gv_value.specs.Tree.{Content, Tree, Trees, no_trees, tree}

-- The fields of a commit
pub record CommitView : Type 0 where
  pub metadata : Tree
  -- Empty if there is no parent
  pub parent : List ℕ
  pub related : Tree
  pub subject : List ℕ
  pub body : List ℕ
  -- Seconds since the epoch
  pub timestamp : ℕ
  -- The digests of the root's dirtree and dirmeta
  pub tree : List ℕ
  pub meta : List ℕ

-- A file of a dirtree: its name and its digest
pub record FileRow : Type 0 where
  pub name : List ℕ
  pub digest : List ℕ

-- A directory of a dirtree: its name and the digests of its dirtree and dirmeta
pub record DirRow : Type 0 where
  pub name : List ℕ
  pub tree : List ℕ
  pub meta : List ℕ

-- The entries of a dirtree
pub record TreeView : Type 0 where
  pub files : List FileRow
  pub dirs : List DirRow

-- The fields of a dirmeta
pub record MetaView : Type 0 where
  pub uid : ℕ
  pub gid : ℕ
  pub mode : ℕ
  -- Whether there are no extended attributes
  pub bare : Bool

-- ---- single values

-- The byte in a value of type `y`
abbrev pub byte_in : Tree → Option ℕ
byte_in (Tree.leaf basics.Byte (Content.number n)) = Some n
byte_in _ = None

-- The results of a reader on each value, if it succeeds on all
abbrev pub each_of : {A : Type 0} → (Tree → Option A) → Trees → Option (List A)
each_of one no_trees = Some []
each_of one (tree v vs) =
    option_and_then (λ a. option_map (λ others. a ∷ others) (each_of one vs)) (one v)

-- The elements of an array
abbrev pub items_in : Tree → Option Trees
items_in (Tree.array vs) = Some vs
items_in _ = None

-- The bytes in a value of type `ay`
abbrev pub bytes_in : Tree → Option (List ℕ)
bytes_in v = option_and_then (each_of byte_in) (items_in v)

-- A text as a value of type `s`
abbrev pub text_value : List ℕ → Tree
text_value text = Tree.leaf basics.Str (Content.text text)

-- The text in a value of type `s`
abbrev pub text_in : Tree → Option (List ℕ)
text_in (Tree.leaf basics.Str (Content.text text)) = Some text
text_in _ = None

-- The number in a value of type `u`, which OSTree stores in big-endian order
abbrev pub number_in : Tree → Option ℕ
number_in (Tree.leaf basics.Uint32 (Content.number n)) = Some (swap_bytes w32 n)
number_in _ = None

-- The number in a value of type `t`, which OSTree stores in big-endian order
abbrev pub time_in : Tree → Option ℕ
time_in (Tree.leaf basics.Uint64 (Content.number n)) = Some (swap_bytes w64 n)
time_in _ = None

-- ---- a commit

-- A commit with these fields, if each could be read
abbrev pub commit_from : Tree → Tree → Option (List ℕ) → Option (List ℕ) → Option (List ℕ)
    → Option ℕ → Option (List ℕ) → Option (List ℕ) → Option CommitView
commit_from metadata related parent subject body time root meta =
    option_and_then (λ p. option_and_then
    (λ s. option_and_then (λ b. option_and_then (λ t. option_and_then (λ d. option_map (λ m.
    record {
      metadata = metadata;
      parent = p;
      related = related;
      subject = s;
      body = b;
      timestamp = t;
      tree = d;
      meta = m;
    })
    meta) root) time) body) subject) parent

-- The fields of a commit in its value
abbrev pub commit_in : Tree → Option CommitView
commit_in (Tree.tuple (tree metadata
    (tree parent (tree related
    (tree subject (tree body (tree time (tree root (tree meta no_trees))))))))) =
    commit_from metadata related (bytes_in parent) (text_in subject) (text_in body) (time_in time)
    (bytes_in root) (bytes_in meta)
commit_in _ = None

-- ---- a dirtree

-- A file of a dirtree in its value
abbrev pub file_in : Tree → Option FileRow
file_in (Tree.tuple (tree name (tree digest no_trees))) =
    option_and_then (λ n. option_map (λ d. record { name = n; digest = d }) (bytes_in digest))
    (text_in name)
file_in _ = None

-- A directory of a dirtree in its value
abbrev pub dir_in : Tree → Option DirRow
dir_in (Tree.tuple (tree name (tree root (tree meta no_trees)))) =
    option_and_then (λ n. option_and_then
    (λ t. option_map (λ m. record { name = n; tree = t; meta = m }) (bytes_in meta))
    (bytes_in root)) (text_in name)
dir_in _ = None

-- The entries of a dirtree in its value
abbrev pub tree_in : Tree → Option TreeView
tree_in (Tree.tuple (tree files (tree dirs no_trees))) =
    option_and_then (λ fs. option_map (λ ds. record { files = fs; dirs = ds })
    (option_and_then (each_of dir_in) (items_in dirs)))
    (option_and_then (each_of file_in) (items_in files))
tree_in _ = None

-- ---- a dirmeta

-- Tests whether a list of values is empty
abbrev pub are_none : Trees → Bool
are_none no_trees = true
are_none (tree v vs) = false

-- The fields of a dirmeta in its value
abbrev pub meta_in : Tree → Option MetaView
meta_in (Tree.tuple (tree uid (tree gid (tree mode (tree xattrs no_trees))))) =
    option_and_then (λ u. option_and_then (λ g. option_and_then (λ m. option_map (λ x.
    record { uid = u; gid = g; mode = m; bare = are_none x })
    (items_in xattrs)) (number_in mode)) (number_in gid)) (number_in uid)
meta_in _ = None
