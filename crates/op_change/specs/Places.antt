-- The paths that bringing a commit uses.
use Rattle.std.specs.Prelude.{◌≡◌, ℕ, List, ◌∷◌, true, codes}
use Rattle.fp_name.specs.Hex.{is_digest}
use Rattle.fp_name.specs.Refs.{Ref, is_ref}
use Rattle.fp_small.specs.Places.{repo, tmp}
use Rattle.fp_host.specs.Paths.{Elements}
use Rattle.dep_states.specs.Names.{commit_dir}
use Rattle.op_change.specs.declared.places.Places.{Places}

-- The work directory of a pull, `repo/tmp/pull`, which has its objects until all are checked
abbrev pub pull_work : Elements
pull_work = codes "pull" ∷ tmp

-- The paths are those for this commit of the ref, and both are valid
pub record ArePlaces (name : Ref) (commit : List ℕ) (places : Places) : Type 0 where
  pub repo_is : places.repo ≡ repo
  pub tmp_is : places.tmp ≡ tmp
  pub work_is : places.work ≡ pull_work
  pub folder_is : places.folder ≡ commit_dir name commit
  pub digits : is_digest commit ≡ true
  pub good : is_ref name ≡ true
