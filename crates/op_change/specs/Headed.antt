-- A commit whose head was checked.
use Rattle.std.specs.Prelude.{◌≡◌, ℕ, List, true, length, leb, Some}
use Rattle.fp_base.specs.declared.object.ObjKind.TheVariants as kinds
use Rattle.fp_name.specs.Refs.{Ref}
use Rattle.ost_model.specs.declared.limits.TheConstants.{MOST_METADATA_FILE_BYTES}
use Rattle.ost_model.specs.declared.object.Object.TheVariants as objects
use Rattle.ost_model.specs.Fields.{CommitView}
use Rattle.ost_model.specs.Look.{nothing, file_at, look}
use Rattle.ost_model.specs.Objects.{Have}
use Rattle.ost_model.specs.Order.{commit_at}
use Rattle.ost_model.specs.Standing.{deploy_name, metadata_name}
use Rattle.dep_states.specs.Sound.{reads_as}

-- The commit has this timestamp, its root directory has no entry `deploy`, and its file `metadata`
-- is valid for the ref's kind
pub record IsHeaded (have : Have) (name : Ref) (commit : List ℕ) (time : ℕ) : Type 0 where
  pub view : CommitView
  pub read : commit_at have commit ≡ Some view
  pub time_is : view.timestamp ≡ time
  pub no_deploy : look have commit deploy_name ≡ nothing
  pub digest : List ℕ
  pub metadata : look have commit metadata_name ≡ file_at digest
  pub mode : ℕ
  pub bytes : List ℕ
  pub there : have digest kinds.File ≡ Some (objects.File mode bytes)
  pub short : leb (length bytes) MOST_METADATA_FILE_BYTES ≡ true
  pub reads : reads_as name.kind bytes ≡ true
