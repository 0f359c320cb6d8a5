-- Commits that are checked out in a directory: the requirements on a deployed commit, for one store
-- and one commit.
use Rattle.std.specs.Prelude.{◌≡◌, ◌≢◌, ℕ, List, [], ◌∷◌, ◌++◌, Bool, true, false, ◌&&◌, leb, length, None, codes}
use Rattle.fp_host.specs.Paths.{Elements}
use Rattle.fp_host.specs.Outcome.{Spot, gone, folder, holds, points, Disk}
use Rattle.fp_base.specs.declared.object.ObjKind.TheVariants as kinds
use Rattle.ost_model.specs.declared.limits.TheConstants.{MOST_METADATA_FILE_BYTES}
use Rattle.ost_model.specs.Objects.{object_path, store}
use Rattle.ost_model.specs.Order.{Place, In, order, first_fault}
use Rattle.ost_model.specs.Look.{Found, nothing, directory, file_at, look}

-- The node that must be at a path where `look` finds this: nothing, a directory, or the node of the
-- object in the store, which is the same file (a hard link) or a symlink of the same text
abbrev pub expected : Elements → Disk → Found → Spot
expected root disk nothing = gone
expected root disk (directory e) = folder
expected root disk (file_at d) = disk (object_path root d kinds.File)

-- Tests whether the node of the path `metadata` is a file of at most 1 MiB that passes the test
-- `reads`
abbrev pub is_metadata : (List ℕ → Bool) → Spot → Bool
is_metadata reads (holds id mode bytes) = leb (length bytes) MOST_METADATA_FILE_BYTES && reads bytes
is_metadata reads gone = false
is_metadata reads folder = false
is_metadata reads (points text) = false

-- The path `deploy`
abbrev pub deploy_name : Elements
deploy_name = codes "deploy" ∷ []

-- The path `metadata`
abbrev pub metadata_name : Elements
metadata_name = codes "metadata" ∷ []

-- The commit is checked out whole in the directory `dir`, from the store at `root`: at each path of
-- `dir` except `deploy` is what `look` finds, the commit has no fault, its file `metadata` passes
-- the test `reads`, and it has no entry `deploy`.
pub record Stands (reads : List ℕ → Bool) (root : Elements) (disk : Disk) (commit : List ℕ)
    (dir : Elements) : Type 0 where
  pub paths : (rest : Elements) → rest ≢ deploy_name
      → disk (rest ++ dir) ≡ expected root disk (look (store root disk) commit rest)
  pub whole : first_fault (store root disk) commit ≡ None
  pub described : is_metadata reads
      (expected root disk (look (store root disk) commit metadata_name)) ≡ true
  pub no_deploy : look (store root disk) commit deploy_name ≡ nothing

-- Two disks have the same nodes at `dir` and below it, except at its path `deploy`
abbrev pub SameBelow : Elements → Disk → Disk → Type 0
SameBelow dir i j = (rest : Elements) → rest ≢ deploy_name → j (rest ++ dir) ≡ i (rest ++ dir)

-- Two disks have the same nodes at the paths of a commit's objects
abbrev pub SameObjects : Elements → List ℕ → Disk → Disk → Type 0
SameObjects root commit i j = (p : Place) → In (order (store root i) commit) p
    → j (object_path root p.digest p.kind) ≡ i (object_path root p.digest p.kind)
