-- A commit that was built from rows.
use Rattle.std.specs.Prelude.{◌≡◌, ℕ, List, Some, None}
use Rattle.std.specs.List.{AllByRecursion}
use Rattle.fp_host.specs.Paths.{Elements}
use Rattle.fp_name.specs.Refs.{Ref}
use Rattle.ost_model.specs.Fields.{DirRow}
use Rattle.ost_model.specs.Order.{commit_at, first_fault}
use Rattle.ost_model.specs.Look.{look, directory}
use Rattle.ost_commit.specs.declared.row.TreeRow.{TreeRow}
use Rattle.ost_commit.specs.declared.built.Built.{Built}
use Rattle.ost_commit.specs.declared.built.BuildError.{BuildError}
use Rattle.ost_commit.specs.declared.built.BuildError.TheVariants as error
use Rattle.ost_commit.specs.Rows.{says}
use Rattle.ost_commit.specs.Refusals.{first_refused}
use Rattle.ost_commit.specs.Tables.{Collide}
use Rattle.ost_commit.specs.Sizes.{IsTooLarge}
use Rattle.ost_commit.specs.Objects.{have_of, IsNamed, AreApart, Holds}
use Rattle.ost_commit.specs.Commits.{commit_of_tree}
use Rattle.ost_commit.specs.Shows.{found_said, meta_at, plain_meta}

-- The commit is that of the rows, of this ref, subject and time, and has all its objects
pub record BuiltCommit (rows : List TreeRow) (r : Ref) (subject : List ℕ) (timestamp : ℕ)
    (built : Built) : Type 0 where
  -- The digests of the root's dirtree and dirmeta
  pub root : List ℕ
  pub meta : List ℕ
  pub commit : commit_at (have_of built.objects) built.commit
      ≡ Some (commit_of_tree r subject timestamp root meta)
  -- At each path, the commit has what the rows state
  pub paths : (path : Elements) → found_said (look (have_of built.objects) built.commit path)
      ≡ says rows path
  pub directories : (path : Elements) (e : DirRow)
      → look (have_of built.objects) built.commit path ≡ directory e
      → meta_at (have_of built.objects) e.meta ≡ Some plain_meta
  pub contents : AllByRecursion (Holds (have_of built.objects)) rows
  -- The objects have no fault, match their digests, and are listed once each
  pub whole : first_fault (have_of built.objects) built.commit ≡ None
  pub named : AllByRecursion IsNamed built.objects
  pub apart : AreApart built.objects

-- Holds if building the commit may fail with this error
abbrev pub IsBuildFault : List TreeRow → Ref → List ℕ → ℕ → BuildError → Type 0
IsBuildFault rows r subject timestamp (error.Row n) = first_refused rows ≡ Some n
IsBuildFault rows r subject timestamp error.Collision = (first_refused rows ≡ None) × Collide
IsBuildFault rows r subject timestamp error.TooLarge =
    (first_refused rows ≡ None) × IsTooLarge rows (says rows) r subject timestamp
IsBuildFault rows r subject timestamp error.NoMemory = Unit {0}
