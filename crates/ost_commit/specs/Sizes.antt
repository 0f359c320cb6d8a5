-- Commits that are too large.
use Rattle.std.specs.Prelude.{◌≡◌, ◌≢◌, ◌≤◌, ◌⊎◌, ◌∷◌, ◌&&◌, ℕ, List, Bool, true, length, Some, Ok}
use Rattle.std.specs.List.{list_all}
use Rattle.std.specs.List.Sorted.{IsStrictlySortedBy}
use Rattle.std.specs.Map.{keys_of}
use Rattle.std.specs.Ordering.{nat_cmp}
use Rattle.std.specs.Cmp.Lexicographic.{slice_cmp}
use Rattle.fp_host.specs.Paths.{Elements, is_element}
use Rattle.fp_name.specs.Hex.{is_digest}
use Rattle.fp_name.specs.Refs.{Ref}
use Rattle.ost_model.specs.Fields.{FileRow, DirRow, TreeView}
use Rattle.ost_model.specs.Readers.{tree_read, commit_read}
use Rattle.ost_object.specs.declared.dirtree.DirTree.{DirTree}
use Rattle.ost_object.specs.Views.{tree_view}
use Rattle.ost_commit.specs.declared.limits.TheConstants.{MOST_NAMES}
use Rattle.ost_commit.specs.declared.row.TreeRow.{TreeRow}
use Rattle.ost_commit.specs.declared.tree.Child.{Child}
use Rattle.ost_commit.specs.declared.tree.Child.TheVariants as child
use Rattle.ost_commit.specs.Rows.{Said, a_directory}
use Rattle.ost_commit.specs.Refusals.{is_content}
use Rattle.ost_commit.specs.Folders.{child_in, child_said, put_at}
use Rattle.ost_commit.specs.Entries.{Names, tree_rows}
use Rattle.ost_commit.specs.Commits.{commit_of_tree}

-- Tests whether the digest of a file or a symlink has 32 bytes
abbrev pub has_digest : FileRow → Bool
has_digest f = is_digest f.digest

-- Tests whether the digests of a directory have 32 bytes
abbrev pub has_digests : DirRow → Bool
has_digests d = is_digest d.tree && is_digest d.meta

-- Tests whether all digests in a dirtree have 32 bytes
abbrev pub are_named : TreeView → Bool
are_named v = list_all has_digest v.files && list_all has_digests v.dirs

-- Holds if all digests of the new dirtree have 32 bytes, if those of the old one have
abbrev pub StayNamed : DirTree → DirTree → Type 0
StayNamed old new = are_named (tree_view old) ≡ true → are_named (tree_view new) ≡ true

-- The dirtree has no serialised form of at most 16 MiB
pub record IsUnwritten (v : TreeView) : Type 0 where
  pub digests : are_named v ≡ true
  pub none : (bytes : List ℕ) → tree_read bytes ≢ Ok v

-- A directory of at most 40,000 names in ascending order, each of them an entry, has a dirtree
-- without a serialised form of at most 16 MiB, with these digests
pub record IsLargeDirectory (rows : List TreeRow) (said : Elements → Said) : Type 0 where
  pub path : Elements
  pub directory : said path ≡ a_directory
  pub entries : List (List ℕ × Child)
  pub each : (x : List ℕ) → child_said rows (child_in entries x) ≡ said (x ∷ path)
  pub inside : (x : List ℕ) (k : ℕ) → child_in entries x ≡ Some (child.Content k)
      → is_content (put_at rows k) ≡ true
  pub named : (x : List ℕ) (c : Child) → child_in entries x ≡ Some c → is_element x ≡ true
  pub ordered : IsStrictlySortedBy (slice_cmp nat_cmp) (keys_of entries)
  pub few : length entries ≤ MOST_NAMES
  pub names : Names
  pub none : IsUnwritten (tree_rows names entries)

-- The commit of a root with these digests has no serialised form of at most 16 MiB
pub record IsLargeCommit (r : Ref) (subject : List ℕ) (timestamp : ℕ) : Type 0 where
  pub tree : List ℕ
  pub meta : List ℕ
  pub tree_digest : is_digest tree ≡ true
  pub meta_digest : is_digest meta ≡ true
  pub none : (bytes : List ℕ) → commit_read bytes ≢ Ok (commit_of_tree r subject timestamp tree meta)

-- Holds if a dirtree or the commit has no serialised form of at most 16 MiB
abbrev pub IsTooLarge : List TreeRow → (Elements → Said) → Ref → List ℕ → ℕ → Type 0
IsTooLarge rows said r subject timestamp = IsLargeDirectory rows said ⊎ IsLargeCommit r subject timestamp
