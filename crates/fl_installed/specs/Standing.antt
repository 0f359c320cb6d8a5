-- Properties of the file `metadata` of a commit without a fault.
use Rattle.std.specs.Prelude.{◌≡◌, ◌++◌, ℕ, List, Bool, true, Some, None}
use Rattle.fp_host.specs.Paths.{Elements}
use Rattle.fp_host.specs.Outcome.{Spot, holds, Disk}
use Rattle.fp_name.specs.Refs.{Ref}
use Rattle.fp_name.specs.declared.kind.RefKind.TheVariants.{App, Runtime}
use Rattle.fp_small.specs.declared.state.RefRow.{RefRow}
use Rattle.ost_model.specs.Objects.{Have, store}
use Rattle.ost_model.specs.Order.{Agree, order, first_fault}
use Rattle.ost_model.specs.Standing.{Stands, metadata_name}
use Rattle.fl_installed.specs.Metadata.{runtime_named}
use Rattle.fl_installed.specs.Deployed.{short_file}
use Rattle.fl_installed.specs.Files.{metadata_file, metadata_in}
use Rattle.fl_installed.specs.Users.{SaySame, first_user, installed_metas, installed_points}

-- The node is a file with these bytes, and they are valid by `reads`
pub record IsRead (reads : List ℕ → Bool) (bytes : List ℕ) (spot : Spot) : Type 0 where
  pub id : ℕ
  pub mode : ℕ
  pub is : spot ≡ holds id mode bytes
  pub read : reads bytes ≡ true

-- If a commit is checked out in a directory, the file `metadata` there has the bytes of the
-- commit's file in the store, and they are valid
abbrev pub StandingIsRead : Type 0
StandingIsRead =
    (reads : List ℕ → Bool) (root : Elements) (disk : Disk) (commit : List ℕ) (dir : Elements)
    → Stands reads root disk commit dir
    → IsRead reads (metadata_in (store root disk) commit) (disk (metadata_name ++ dir))

-- If a commit is checked out in a directory, the file `metadata` there is that of the store, and so
-- has at most 1 MiB
abbrev pub StandingIsStored : Type 0
StandingIsStored =
    (reads : List ℕ → Bool) (root : Elements) (disk : Disk) (commit : List ℕ) (dir : Elements)
    → Stands reads root disk commit dir
    → short_file (disk (metadata_name ++ dir)) ≡ metadata_file (store root disk) commit

-- The file `metadata` of a commit without a fault depends only on the objects in the commit's order
abbrev pub MetadataIsLocal : Type 0
MetadataIsLocal = (i j : Have) (commit : List ℕ) → first_fault i commit ≡ None
    → Agree i j (order i commit) → metadata_file j commit ≡ metadata_file i commit

-- The first user of a runtime depends only on the files `metadata` of the deployed commits
abbrev pub UserIsLocal : Type 0
UserIsLocal = (i j : Have) (runtime : Ref) (rows : List RefRow) → SaySame i j rows
    → first_user j runtime rows ≡ first_user i runtime rows

-- The metadata of the deployed applications depends only on the files `metadata` of their commits
abbrev pub MetasAreLocal : Type 0
MetasAreLocal = (i j : Have) (rows : List RefRow) → SaySame i j rows
    → installed_metas j rows ≡ installed_metas i rows

-- The extension points of the deployed refs depend only on the files `metadata` of their commits
abbrev pub PointsAreLocal : Type 0
PointsAreLocal = (i j : Have) (rows : List RefRow) → SaySame i j rows
    → installed_points j rows ≡ installed_points i rows

-- Only applications name runtimes, and they name nothing else
abbrev pub ApplicationsName : Type 0
ApplicationsName = (name : Ref) (bytes : List ℕ) (runtime : Ref)
    → runtime_named name bytes ≡ Some runtime → (runtime.kind ≡ Runtime) × (name.kind ≡ App)
